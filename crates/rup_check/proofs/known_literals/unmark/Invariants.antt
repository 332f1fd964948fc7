use Rattle.std.proofs.Common.{drop}
use Rattle.rup_check.proofs.Marking.{MarkedIn}
use Rattle.rup_check.proofs.known_literals.unmark.Given as goal

abbrev pub invariant-loop-lit : goal.invariant-loop-lit
invariant-loop-lit l = MarkedIn l.vars l.marks (drop l.lit-index l.lits)
