use Rattle.std.proofs.Common.{◌≡◌, ◌≤◌, ◌+◌, ◌++◌, length, map, vec_capacity}
use Rattle.std.specs.Vec.Iter.{into_iter_items}
use Rattle.race_wave.proofs.zip_runners.zipped_passes.Given as goal

abbrev pub invariant-loop-pass : goal.invariant-loop-pass
invariant-loop-pass g l = record {
  equal : length (into_iter_items l.pass-iterator) ≡ length (into_iter_items l.rest);
  room : length l.runners.items + length (into_iter_items l.pass-iterator) ≤ vec_capacity l.runners;
  passes : map (λ r. r.pass) l.runners.items ++ into_iter_items l.pass-iterator ≡ l.fn.passes.items;
  racers : map (λ r. r.racer) l.runners.items ++ into_iter_items l.rest ≡ l.fn.racers.items;
}
