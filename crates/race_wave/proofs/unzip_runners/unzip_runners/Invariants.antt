use Rattle.std.proofs.Common.{◌≡◌, ◌≤◌, ◌+◌, ◌++◌, length, map, vec_capacity}
use Rattle.std.specs.Vec.Iter.{into_iter_items}
use Rattle.race_wave.proofs.unzip_runners.unzip_runners.Given as goal

abbrev pub invariant-loop-runner : goal.invariant-loop-runner
invariant-loop-runner g l = record {
  room_passes : length l.passes.items + length (into_iter_items l.runner-iterator) ≤ vec_capacity l.passes;
  room_racers : length l.racers.items + length (into_iter_items l.runner-iterator) ≤ vec_capacity l.racers;
  passes : l.passes.items ++ map (λ r. r.pass) (into_iter_items l.runner-iterator) ≡ map (λ r. r.pass) l.fn.runners.items;
  racers : l.racers.items ++ map (λ r. r.racer) (into_iter_items l.runner-iterator) ≡ map (λ r. r.racer) l.fn.runners.items;
}
