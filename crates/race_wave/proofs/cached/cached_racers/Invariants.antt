use Rattle.std.proofs.Common.{◌≡◌, map, take}
use Rattle.solver_gate.specs.Racer.{worker_of}
use Rattle.race_wave.proofs.cached.cached_racers.Given as goal

abbrev pub invariant-loop-worker : goal.invariant-loop-worker
invariant-loop-worker g l = map (λ cached. worker_of cached.solver) l.racers.items ≡ take l.worker-index l.workers
