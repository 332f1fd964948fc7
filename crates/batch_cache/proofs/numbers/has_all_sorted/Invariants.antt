-- The walk along what is left finds all exactly if the complete walk does.
use Rattle.std.proofs.Common.{◌≡◌, ◌≤◌, drop, length}
use Rattle.batch_cache.specs.Walks.{has_all_sorted}
use Rattle.batch_cache.proofs.numbers.has_all_sorted.Given as goal

abbrev pub invariant-loop-number : goal.invariant-loop-number
invariant-loop-number l = record {
  within : l.next ≤ length l.sought;
  left : has_all_sorted (drop l.number-index l.these) (drop l.next l.sought) ≡ has_all_sorted l.these l.sought;
}
