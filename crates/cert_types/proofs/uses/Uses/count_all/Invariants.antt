-- The literals visited so far are counted.
use Rattle.std.proofs.Common.{◌≡◌, ℕ, ◌-◌, ◌^◌, length, min, true}
use Rattle.clause_db.specs.declared.lit.Lit.{Lit}
use Rattle.rup_check.specs.KnownLiterals.{is_lit_within}
use Rattle.cert_types.specs.Uses.{count_of}
use Rattle.cert_types.proofs.UseLemmas.{CountedSoFar}
use Rattle.cert_types.proofs.uses.Uses.count_all.Given as goal

abbrev pub invariant-loop-lit : goal.invariant-loop-lit
invariant-loop-lit l = record {
  vars : l.self.vars ≡ l.initial.self.vars;
  counted : (lit : Lit) (t : ℕ) → is_lit_within l.initial.self.vars lit ≡ true → count_of l.initial.self lit ≡ min t (2 ^ 32 - 1) → CountedSoFar l.self l.left l.fn.lits lit t;
}

abbrev pub decreases-loop-lit : goal.decreases-loop-lit
decreases-loop-lit l = length l.left
