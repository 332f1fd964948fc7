-- The hints of a line that follows name what precedes it, and its literals are of the formula's variables. So a log
-- whose lines follow can be written.
use Rattle.std.proofs.Common.{◌≡◌, ◌≤◌, ◌+◌, ◌-◌, ◌∷◌, ◌++◌, [], ℕ, List, Bool, true, false, Option, Some, None, Result, Ok, Err, refl, subst, arith, length, map, if◌then◌else◌, ◌||◌, ne_eqb, inl, inr}
use Rattle.std.specs.Prelude.{nat_lt, ◌==◌}
use Rattle.std.specs.List.{AllByRecursion, list_any}
use Rattle.std.proofs.lemmas.Bool.{cases_eq, or_parts, eqb-false, ltb-false}
use Rattle.std.proofs.lemmas.List.{length_push}
use Rattle.clause_db.specs.declared.lit.Lit.{Lit}
use Rattle.clause_db.specs.Clause.{opposite, clause_at}
use Rattle.rup_check.specs.declared.line.Line.{Line}
use Rattle.rup_check.specs.declared.error.LineErr.{LineErr}
use Rattle.rup_check.specs.declared.error.LineErr.TheVariants.{BadLits}
use Rattle.rup_check.specs.Follows.{has_bad_lits, last_hint_fault, after_hint, fault_or, hints_fault, line_fault, lines_fault, Follows}
use Rattle.rup_check.proofs.Sound.{lines-next}
use Rattle.lrat_text.specs.Write.{greatest, IsBefore, IsLitSpelled, AreSpelled}

clause-named : (clauses : List (List Lit)) (n : ℕ) (c : List Lit) → clause_at clauses n ≡ Some c → IsBefore (length clauses + 1) n
clause-named [] n c e = absurd cc
clause-named (d ∷ clauses) n c e = elim (cases_eq n 1) [
  | inl one ↦ (omega (arith, one), omega (arith, one))
  | inr ne ↦ let rest = clause-named clauses (n - 1) c (rw (ne_eqb n 1 ne) at e) in (omega (arith, rest.0), omega (arith, rest.0, rest.1))
]

is-there : (clauses : List (List Lit)) (h : ℕ) → (clause_at clauses h ≡ None → ⊥) → IsBefore (length clauses + 1) h
is-there clauses h f = go (clause_at clauses h) refl
  where
    go : (o : Option (List Lit)) → clause_at clauses h ≡ o → IsBefore (length clauses + 1) h
    go None e = absurd (f e)
    go (Some c) e = clause-named clauses h c e

absurd-some : (why : LineErr) → Some why ≡ None → ⊥
absurd-some why e = cc

end-names : (known : List Lit) (place : ℕ) (o : Option (List Lit)) → last_hint_fault known place o ≡ None → o ≡ None → ⊥
end-names known place None e q = cc
end-names known place (Some c) e q = cc

step-names : (known : List Lit) (place : ℕ) (o : Option (List Lit)) (rest : List Lit → Option LineErr) → fault_or (after_hint known place o) rest ≡ None → o ≡ None → ⊥
step-names known place None rest e q = cc
step-names known place (Some c) rest e q = cc

step-rest : (r : Result (List Lit) LineErr) (rest : List Lit → Option LineErr) → fault_or r rest ≡ None → (more : List Lit) × (rest more ≡ None)
step-rest (Err why) rest e = absurd (absurd-some why e)
step-rest (Ok more) rest e = (more, e)

hints-named : (clauses : List (List Lit)) (known : List Lit) (place : ℕ) (hints : List ℕ) → hints_fault clauses known place hints ≡ None → AllByRecursion (IsBefore (length clauses + 1)) hints
hints-named clauses known place [] e = tt
hints-named clauses known place (h ∷ []) e = (is-there clauses h (end-names known place (clause_at clauses h) e), tt)
hints-named clauses known place (h ∷ next ∷ hints) e =
    let rest = step-rest (after_hint known place (clause_at clauses h)) (λ more. hints_fault clauses more (place + 1) (next ∷ hints)) e in (
      is-there clauses h (step-names known place (clause_at clauses h) (λ more. hints_fault clauses more (place + 1) (next ∷ hints)) e),
      hints-named clauses rest.0 (place + 1) (next ∷ hints) rest.1,
    )

lits-within : (vars : ℕ) (lits : List Lit) → vars ≤ greatest → list_any (λ l. l.var == 0 || nat_lt vars l.var) lits ≡ false → AllByRecursion IsLitSpelled lits
lits-within vars [] le h = tt
lits-within vars (l ∷ lits) le h =
    let parts = or_parts _ _ h in
    let this = or_parts _ _ parts.0 in
    let low = eqb-false l.var 0 this.0 in
    let high = ltb-false vars l.var this.1 in
    ((omega (arith, low), omega (arith, high)), lits-within vars lits le parts.1)

not-bad : (b : Bool) (o : Option LineErr) → (if b then Some BadLits else o) ≡ None → (b ≡ false) × (o ≡ None)
not-bad true o e = absurd cc
not-bad false o e = (refl, e)

line-named : (vars : ℕ) (clauses : List (List Lit)) (line : Line) → vars ≤ greatest → line_fault vars clauses line ≡ None
    → AllByRecursion IsLitSpelled line.lits × AllByRecursion (IsBefore (length clauses + 1)) line.hints
unfolding line_fault
line-named vars clauses line le e =
    let parts = not-bad (has_bad_lits vars line.lits) (hints_fault clauses (map opposite line.lits) 1 line.hints) e in
    (lits-within vars line.lits le (or_parts _ _ parts.0).0, hints-named clauses (map opposite line.lits) 1 line.hints parts.1)

lines-spelled : (vars : ℕ) (clauses : List (List Lit)) (place : ℕ) (lines : List Line) → lines_fault vars clauses place lines ≡ None → vars ≤ greatest
    → length clauses + length lines ≤ greatest → AreSpelled (length clauses + 1) lines
lines-spelled vars clauses place [] e le sum = tt
lines-spelled vars clauses place (line ∷ lines) e le sum =
    let parts = lines-next vars clauses place line lines e in
    let this = line-named vars clauses line le parts.0 in
    let longer = length_push clauses line.lits in (
      (omega arith, this.0, this.1),
      subst (λ n. AreSpelled (n + 1) lines) longer (lines-spelled vars (clauses ++ line.lits ∷ []) (place + 1) lines parts.1 le (omega (arith, longer))),
    )

pub follows-spelled : (vars : ℕ) (clauses : List (List Lit)) (lines : List Line) → Follows vars clauses lines → vars ≤ greatest
    → length clauses + length lines ≤ greatest → AreSpelled (length clauses + 1) lines
follows-spelled vars clauses lines e le sum = lines-spelled vars clauses 1 lines e le sum
