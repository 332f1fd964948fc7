-- The rest of the clause decides as all of it does.
use Rattle.std.proofs.Common.{◌≡◌, length}
use Rattle.cert_types.specs.Fresh.{is_subclause}
use Rattle.cert_types.proofs.clause_index.are_marked.Given as goal

abbrev pub invariant-loop-lit : goal.invariant-loop-lit
invariant-loop-lit l = is_subclause l.marks.lits l.left ≡ is_subclause l.marks.lits l.fn.clause

abbrev pub decreases-loop-lit : goal.decreases-loop-lit
decreases-loop-lit l = length l.left
