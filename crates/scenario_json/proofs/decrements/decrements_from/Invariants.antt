use Rattle.std.proofs.Common.{◌≡◌, ◌+◌, drop, map}
use Rattle.serde_json.specs.View.{view}
use Rattle.scenario_json.specs.ScenarioOf.{decrement_in}
use Rattle.scenario_json.specs.Steps.{each_from}
use Rattle.scenario_json.proofs.Readings.{after}
use Rattle.scenario_json.proofs.decrements.decrements_from.Given as goal

abbrev pub invariant-loop-i : goal.invariant-loop-i
invariant-loop-i l =
    after l.decrements.items (each_from decrement_in (l.i + 1) (map view (drop l.i l.items)))
    ≡ each_from decrement_in 1 (map view l.items)
