use Rattle.std.proofs.Common.{◌≡◌, ℕ, drop, length, take, map, false}
use Rattle.clause_db.specs.Clause.{opposite}
use Rattle.rup_check.specs.Follows.{has_bad_lits}
use Rattle.rup_check.proofs.hints.deny.Given as goal

abbrev pub invariant-loop-lit : goal.invariant-loop-lit
invariant-loop-lit l = (i : ℕ) × (l.left ≡ drop i l.fn.lits) × (l.known.lits ≡ map opposite (take i l.fn.lits)) × (l.known.vars ≡ l.fn.known.vars) × (has_bad_lits l.vars (take i l.fn.lits) ≡ false)

abbrev pub decreases-loop-lit : goal.decreases-loop-lit
decreases-loop-lit l = length l.left
