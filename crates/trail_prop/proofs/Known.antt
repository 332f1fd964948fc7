-- Literals: their marks, and what a variable without a value says of them.
use Rattle.std.proofs.Common.{◌≡◌, ◌≢◌, ℕ, ◌*◌, ◌<◌, Bool, true, false, not, List, [], ◌∷◌, ◌++◌, length, refl, sym, ap, ◌∙◌, subst, inl, inr, ◌⊎◌, arith, get_or}
use Rattle.std.specs.Prelude.{slice_set}
use Rattle.std.proofs.lemmas.Bool.{and_parts, false≢true}
use Rattle.std.proofs.lemmas.List.{get_or-set_same, get_or-set_other}
use Rattle.clause_db.specs.declared.lit.Lit.{Lit}
use Rattle.clause_db.specs.Clause.{opposite, has_lit, code_of}
use Rattle.clause_db.specs.Clauses.{LitWithin}
use Rattle.clause_db.proofs.Literals.{lit-parts, lit_cases, has-push_new, has-push_other, code-is, code-below}
use Rattle.trail_prop.specs.Open.{is_open}
use Rattle.trail_prop.specs.Entries.{MarksSay}

pub marks-push : (vars : ℕ) (marks : List Bool) (known : List Lit) (x : Lit) → MarksSay vars marks known → length marks ≡ 2 * vars → LitWithin vars x → MarksSay vars (slice_set marks (code_of x) true) (known ++ x ∷ [])
marks-push vars marks known x m size p = λ l q.
    let below = code-below vars x p in
    let within : code_of x < length marks = omega arith in
    lit_cases l x (get_or (slice_set marks (code_of x) true) (code_of l) false ≡ has_lit (known ++ x ∷ []) l)
    (λ e. subst (λ (z : Lit). get_or (slice_set marks (code_of x) true) (code_of z) false ≡ has_lit (known ++ x ∷ []) z) (sym e) (get_or-set_same marks (code_of x) true false within ∙ sym (has-push_new known x)))
    (λ n. get_or-set_other marks (code_of x) (code_of l) true false (λ e. n (code-is vars l x q p e)) ∙ (m l q ∙ sym (has-push_other known x l n)))

pub marks-pop : (vars : ℕ) (marks : List Bool) (known : List Lit) (x : Lit) → MarksSay vars marks (known ++ x ∷ []) → length marks ≡ 2 * vars → LitWithin vars x → has_lit known x ≡ false → MarksSay vars (slice_set marks (code_of x) false) known
marks-pop vars marks known x m size p fresh = λ l q.
    let below = code-below vars x p in
    let within : code_of x < length marks = omega arith in
    lit_cases l x (get_or (slice_set marks (code_of x) false) (code_of l) false ≡ has_lit known l)
    (λ e. subst (λ (z : Lit). get_or (slice_set marks (code_of x) false) (code_of z) false ≡ has_lit known z) (sym e) (get_or-set_same marks (code_of x) false false within ∙ sym fresh))
    (λ n. get_or-set_other marks (code_of x) (code_of l) false false (λ e. n (code-is vars l x q p e)) ∙ (m l q ∙ has-push_other known x l n))

not-true : (b : Bool) → not b ≡ true → b ≡ false
not-true true e = cc
not-true false e = refl

pub open-parts : (known : List Lit) (l : Lit) → is_open known l ≡ true → (has_lit known l ≡ false) × (has_lit known (opposite l) ≡ false)
open-parts known l e =
    let parts = and_parts (not (has_lit known l)) (not (has_lit known (opposite l))) e in
    (not-true (has_lit known l) parts.0, not-true (has_lit known (opposite l)) parts.1)

sign_cases : (a b : Bool) → (a ≡ b) ⊎ (a ≡ not b)
sign_cases true true = inl refl
sign_cases true false = inr refl
sign_cases false true = inr refl
sign_cases false false = inl refl

-- a literal without a value has another variable than each known one
pub open-apart : (known : List Lit) (l k : Lit) → is_open known l ≡ true → has_lit known k ≡ true → k.var ≢ l.var
open-apart known l k o h e =
    let parts = open-parts known l o in
    elim (sign_cases k.positive l.positive) [
      | inl s ↦ false≢true (sym parts.0 ∙ (ap (λ (z : Lit). has_lit known z) (sym (lit-parts k l e s)) ∙ h))
      | inr s ↦ false≢true (sym parts.1 ∙ (ap (λ (z : Lit). has_lit known z) (sym (lit-parts k (opposite l) e s)) ∙ h))
    ]
