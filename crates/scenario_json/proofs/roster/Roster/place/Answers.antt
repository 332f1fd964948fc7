use Rattle.scenario_json.specs.ScenarioOf.{placed}
use Rattle.scenario_json.proofs.StationsPlaced.{keyed-values, placed_in, values-placed}
use Rattle.scenario_json.proofs.roster.Roster.place.Goals as goal

pub invariant_of-self-2 : goal.invariant_of-self-2
invariant_of-self-2 c =
    let before = c.self.inside.by_id.entries in
    let after = c.insert.new.self.entries in
    keyed-values after (placed c.args.station c.args.self.now)
    (placed_in c.args.station before c.args.self.now after c.self.invariant c.self.view_is c.requires c.in_ok-insert.ensures.entries)

pub returns : goal.returns
returns c =
    let before = c.self.inside.by_id.entries in
    let after = c.insert.new.self.entries in
    values-placed after (placed c.args.station c.args.self.now)
    (placed_in c.args.station before c.args.self.now after c.self.invariant c.self.view_is c.requires c.in_ok-insert.ensures.entries)
