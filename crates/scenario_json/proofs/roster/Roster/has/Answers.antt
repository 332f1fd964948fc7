use Rattle.std.proofs.Common.{◌∙◌, ap, nat_cmp}
use Rattle.std.specs.BTreeMap.{is_at, values}
use Rattle.std.specs.Map.{lookup}
use Rattle.std.specs.Option.{is_some}
use Rattle.scenario_json.specs.ScenarioOf.{has_id}
use Rattle.scenario_json.proofs.StationsPlaced.{has-keyed}
use Rattle.scenario_json.proofs.roster.Roster.has.Goals as goal

pub returns : goal.returns
returns c =
    let by_id = c.self.inside.by_id in
    c.contains_key.ensures
    ∙ ap (λ es. is_some (lookup (is_at (nat_cmp c.args.id)) es)) c.self.invariant
    ∙ has-keyed (values by_id) c.args.id
    ∙ ap (λ xs. has_id xs c.args.id) c.self.view_is
