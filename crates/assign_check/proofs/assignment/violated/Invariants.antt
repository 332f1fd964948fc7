use Rattle.std.proofs.Common.{◌≡◌, count_by}
use Rattle.assign_check.proofs.Counts.{violated_among}
use Rattle.assign_check.proofs.assignment.violated.Given as goal

abbrev pub invariant-loop-x : goal.invariant-loop-x
invariant-loop-x l = l.count ≡ count_by (violated_among l.entries l.x-index) l.book.pairs
