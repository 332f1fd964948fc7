use Rattle.assign_check.proofs.Violations.{NoneFrom}
use Rattle.assign_check.proofs.check.violation.Given as goal

abbrev pub invariant-loop-x : goal.invariant-loop-x
invariant-loop-x l = NoneFrom l.map l.book.pairs l.x-index
