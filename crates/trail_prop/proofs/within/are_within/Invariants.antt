use Rattle.std.proofs.Common.{ℕ, ◌<◌, get_or}
use Rattle.clause_db.specs.declared.lit.Lit.{Lit}
use Rattle.clause_db.specs.Clauses.{LitWithin}
use Rattle.trail_prop.proofs.within.are_within.Given as goal

abbrev pub invariant-loop-lit : goal.invariant-loop-lit
invariant-loop-lit l = (k : ℕ) (d : Lit) → k < l.lit-index → LitWithin l.vars (get_or l.lits k d)
