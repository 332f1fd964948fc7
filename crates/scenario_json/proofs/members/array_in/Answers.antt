use Rattle.std.proofs.Common.{◌∙◌, ap, map}
use Rattle.std.specs.Prelude.{Ok}
use Rattle.serde_json.specs.View.{view}
use Rattle.scenario_json.proofs.Readings.{array-is}
use Rattle.scenario_json.proofs.members.array_in.Goals as goal

pub returns : goal.returns
returns c =
    ap (λ vs. Ok (map view vs)) c.deref.ensures.value
    ∙ array-is c.args.name (view c.args.value.now) c.in-Some.items.now.items c.in-Some.ensures
