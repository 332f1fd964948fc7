use Rattle.std.proofs.Common.{◌≡◌, map, take}
use Rattle.serde_json.specs.View.{view}
use Rattle.scenario_json.specs.Write.{whole_for}
use Rattle.scenario_json.proofs.write.decrements_value.Given as goal

abbrev pub invariant-loop-decrement : goal.invariant-loop-decrement
invariant-loop-decrement l = map view l.items.items ≡ map whole_for (take l.decrement-index l.decrements)
