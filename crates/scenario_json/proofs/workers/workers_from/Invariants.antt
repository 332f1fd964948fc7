use Rattle.std.proofs.Common.{◌≡◌, ◌+◌, drop, map}
use Rattle.serde_json.specs.View.{view}
use Rattle.scenario_json.specs.ScenarioOf.{worker_in}
use Rattle.scenario_json.specs.Steps.{each_from}
use Rattle.scenario_json.proofs.Readings.{after}
use Rattle.scenario_json.proofs.workers.workers_from.Given as goal

abbrev pub invariant-loop-i : goal.invariant-loop-i
invariant-loop-i l =
    after l.workers.items (each_from worker_in (l.i + 1) (map view (drop l.i l.items)))
    ≡ each_from worker_in 1 (map view l.items)
