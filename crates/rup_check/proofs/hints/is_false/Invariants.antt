use Rattle.std.proofs.Common.{◌≡◌, length}
use Rattle.clause_db.specs.Forced.{is_false_clause}
use Rattle.rup_check.proofs.hints.is_false.Given as goal

abbrev pub invariant-loop-lit : goal.invariant-loop-lit
invariant-loop-lit l = is_false_clause l.known.lits l.left ≡ is_false_clause l.known.lits l.fn.clause

abbrev pub decreases-loop-lit : goal.decreases-loop-lit
decreases-loop-lit l = length l.left
