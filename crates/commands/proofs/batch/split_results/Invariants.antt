-- The parts so far, and then what is left.
use Rattle.std.proofs.Common.{◌≡◌, ◌++◌, map}
use Rattle.std.specs.Vec.Iter.{into_iter_items}
use Rattle.commands.proofs.batch.split_results.Given as goal

abbrev pub invariant-loop-ran : goal.invariant-loop-ran
invariant-loop-ran l = record {
  records : l.results.records.items ++ map (λ r. r.record) (into_iter_items l.ran-iterator) ≡ map (λ r. r.record) l.fn.rans.items;
  texts : l.results.texts.items ++ map (λ r. r.result) (into_iter_items l.ran-iterator) ≡ map (λ r. r.result) l.fn.rans.items;
}
