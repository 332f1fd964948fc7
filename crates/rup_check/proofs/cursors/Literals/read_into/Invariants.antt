use Rattle.std.proofs.Common.{◌≡◌, ◌++◌, length}
use Rattle.rup_check.proofs.cursors.Literals.read_into.Given as goal

abbrev pub invariant-loop-lit : goal.invariant-loop-lit
invariant-loop-lit l = l.lits.items ++ l.left ≡ l.fn.lits.items ++ l.fn.self

abbrev pub decreases-loop-lit : goal.decreases-loop-lit
decreases-loop-lit l = length l.left
