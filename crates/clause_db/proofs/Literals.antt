-- Literals: when two are equal, and what one more literal changes.
use Rattle.std.proofs.Common.{◌≡◌, ◌≢◌, ℕ, ◌+◌, ◌<◌, Bool, true, false, not, ◌||◌, ◌==◌, if◌then◌else◌, List, [], ◌∷◌, ◌++◌, length, drop, get_or, refl, sym, ap, ◌∙◌, eqb-true, eq-eqb, drop-cons, add-one, ◌-◌, ◌*◌, ◌≤◌, cond, take, arith}
use Rattle.std.proofs.lemmas.Bool.{and_parts, and_from, or_right, false_from_ne_true, false≢true}
use Rattle.clause_db.specs.declared.lit.Lit.{Lit}
use Rattle.clause_db.specs.Clause.{same_lit, has_lit, opposite, code_of}
use Rattle.std.proofs.lemmas.List.{take-append-drop}
use Rattle.clause_db.specs.Clauses.{LitWithin}
use Rattle.clause_db.specs.Forced.{not_false}

same_sign : (a b : Bool) → (if a then b else not b) ≡ true → a ≡ b
same_sign true true e = refl
same_sign true false e = cc
same_sign false true e = cc
same_sign false false e = refl

sign_refl : (a : Bool) → (if a then a else not a) ≡ true
sign_refl true = refl
sign_refl false = refl

pub lit-parts : (l m : Lit) → l.var ≡ m.var → l.positive ≡ m.positive → l ≡ m
lit-parts l m e f = λ i. record { var = e i; positive = f i }

pub same_lit-is : (l m : Lit) → same_lit l m ≡ true → l ≡ m
same_lit-is l m s =
    let parts = and_parts (l.var == m.var) (if l.positive then m.positive else not m.positive) s in
    lit-parts l m (eqb-true l.var m.var parts.0) (same_sign l.positive m.positive parts.1)

pub same_lit-refl : (l : Lit) → same_lit l l ≡ true
same_lit-refl l = and_from (l.var == l.var) (if l.positive then l.positive else not l.positive) (eq-eqb l.var l.var refl) (sign_refl l.positive)

pub same_lit-apart : (l m : Lit) → l ≢ m → same_lit l m ≡ false
same_lit-apart l m n = false_from_ne_true (same_lit l m) (λ s. n (same_lit-is l m s))

-- two literals are equal or not
pub lit_cases : (l x : Lit) (P : Type 0) → (l ≡ x → P) → (l ≢ x → P) → P
lit_cases l x P same other =
    (elim (same_lit l x) as (λ b. same_lit l x ≡ b → P) [
      | true ↦ λ s. same (same_lit-is l x s)
      | false ↦ λ s. other (λ e. false≢true (sym s ∙ (ap (λ (y : Lit). same_lit y x) e ∙ same_lit-refl x)))
    ]) refl

or_false : (b : Bool) → (b || false) ≡ b
or_false true = refl
or_false false = refl

or_step : (a b c d : Bool) → b ≡ (c || d) → (a || b) ≡ ((a || c) || d)
or_step true b c d e = refl
or_step false b c d e = e

-- a list with one more literal at its end
pub has-push : (known : List Lit) (x l : Lit) → has_lit (known ++ x ∷ []) l ≡ (has_lit known l || same_lit l x)
has-push [] x l = or_false (same_lit l x)
has-push (k ∷ ks) x l = or_step (same_lit l k) (has_lit (ks ++ x ∷ []) l) (has_lit ks l) (same_lit l x) (has-push ks x l)

pub has-push_new : (known : List Lit) (x : Lit) → has_lit (known ++ x ∷ []) x ≡ true
has-push_new known x = has-push known x x ∙ or_right (has_lit known x) (same_lit x x) (same_lit-refl x)

pub has-push_other : (known : List Lit) (x l : Lit) → l ≢ x → has_lit (known ++ x ∷ []) l ≡ has_lit known l
has-push_other known x l n = has-push known x l ∙ rw (same_lit-apart l x n) (or_false (has_lit known l))

-- a list from a place on: its item there, and the rest
pub drop-from : {A : Type 0} (xs : List A) (i : ℕ) (d : A) → i < length xs → drop i xs ≡ get_or xs i d ∷ drop (i + 1) xs
drop-from xs i d h = drop-cons xs i d h ∙ rw add-one refl

-- what is not false in a clause with one more literal in front
pub open-skipped : (known rest : List Lit) (l : Lit) → has_lit known (opposite l) ≡ true → not_false known (l ∷ rest) ≡ not_false known rest
open-skipped known rest l e = ap (λ (b : Bool). cond (not b) (l ∷ not_false known rest) (not_false known rest)) e

pub open-kept : (known rest : List Lit) (l : Lit) → has_lit known (opposite l) ≡ false → not_false known (l ∷ rest) ≡ l ∷ not_false known rest
open-kept known rest l e = ap (λ (b : Bool). cond (not b) (l ∷ not_false known rest) (not_false known rest)) e

pub split-at : (xs : List Lit) (i : ℕ) (d : Lit) → i < length xs → xs ≡ take i xs ++ get_or xs i d ∷ drop (i + 1) xs
split-at xs i d h = sym (take-append-drop i xs) ∙ ap (λ (z : List Lit). take i xs ++ z) (drop-from xs i d h)

-- a literal's code identifies it, and is below twice the number of variables
codes : (v w : ℕ) (a b : Bool) → 1 ≤ v → 1 ≤ w → (if a then 2 * (v - 1) else 2 * (v - 1) + 1) ≡ (if b then 2 * (w - 1) else 2 * (w - 1) + 1) → (v ≡ w) × (a ≡ b)
codes v w true true p q e = (omega arith, refl)
codes v w true false p q e = absurd (omega arith)
codes v w false true p q e = absurd (omega arith)
codes v w false false p q e = (omega arith, refl)

pub code-is : (vars : ℕ) (l m : Lit) → LitWithin vars l → LitWithin vars m → code_of l ≡ code_of m → l ≡ m
code-is vars l m p q e = let r = codes l.var m.var l.positive m.positive p.0 q.0 e in lit-parts l m r.0 r.1

code_below : (v vars : ℕ) (a : Bool) → 1 ≤ v → v ≤ vars → (if a then 2 * (v - 1) else 2 * (v - 1) + 1) < 2 * vars
code_below v vars true p q = omega arith
code_below v vars false p q = omega arith

pub code-below : (vars : ℕ) (l : Lit) → LitWithin vars l → code_of l < 2 * vars
code-below vars l p = code_below l.var vars l.positive p.0 p.1
