use Rattle.std.proofs.Common.{◌≡◌, map, take}
use Rattle.serde_json.specs.View.{view}
use Rattle.scenario_json.specs.Write.{worker_for}
use Rattle.scenario_json.proofs.write.workers_value.Given as goal

abbrev pub invariant-loop-worker : goal.invariant-loop-worker
invariant-loop-worker l = map view l.items.items ≡ map worker_for (take l.worker-index l.workers)
