use Rattle.assign_check.proofs.Violations.{NoneFrom}
use Rattle.walk_repack.proofs.pick.first_violated.Given as goal

abbrev pub invariant-loop-x : goal.invariant-loop-x
invariant-loop-x l = NoneFrom l.walk_state.entries l.walk_state.book.pairs l.x-index
