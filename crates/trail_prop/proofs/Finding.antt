-- For `watch_update`: if no third place is found, all literals of the clause except the other watched one are false.
use Rattle.std.proofs.Common.{◌≡◌, ◌≢◌, ℕ, zero, suc, ◌<◌, true, not, cond, List, [], ◌∷◌, Some, None, length, refl, sym, ap, ◌∙◌, subst, inl, inr, ◌⊎◌, arith}
use Rattle.std.proofs.lemmas.Bool.{cond-false, or_left, or_right}
use Rattle.clause_db.specs.declared.lit.Lit.{Lit}
use Rattle.clause_db.specs.Clause.{opposite, has_lit, same_lit}
use Rattle.clause_db.specs.Forced.{not_false, only_open}
use Rattle.clause_db.proofs.Literals.{same_lit-refl, open-kept, open-skipped}
use Rattle.trail_prop.specs.Find.{FindIs}
use Rattle.trail_prop.specs.WatchUpdate.{AllButOneFalse}
use Rattle.trail_prop.specs.Watching.{lit_at}
use Rattle.trail_prop.proofs.Known.{open-parts}
use Rattle.trail_prop.proofs.Forcing.{false-from-none}

none-by-place : (known xs : List Lit) → ((k : ℕ) → k < length xs → has_lit known (opposite (lit_at xs k)) ≡ true) → not_false known xs ≡ []
none-by-place known [] h = refl
none-by-place known (x ∷ xs) h = open-skipped known xs x (h 0 (omega arith)) ∙ none-by-place known xs (λ k l. h (suc k) (omega arith))

-- if all places except one have false literals, only that place can have another
but-one : (known xs : List Lit) (b : ℕ) → b < length xs → ((k : ℕ) → k < length xs → k ≢ b → has_lit known (opposite (lit_at xs k)) ≡ true) → not_false known xs ≡ not_false known (lit_at xs b ∷ [])
but-one known [] b l h = absurd (no-place b l)
  where
    no-place : (b : ℕ) → b < 0 → ⊥
    no-place b l = omega arith
but-one known (x ∷ xs) zero l h =
    let rest : not_false known xs ≡ [] = none-by-place known xs (λ k m. h (suc k) (omega arith) (omega arith)) in
    ap (λ (z : List Lit). cond (not (has_lit known (opposite x))) (x ∷ z) z) rest
but-one known (x ∷ xs) (suc b) l h = open-skipped known xs x (h 0 (omega arith) (omega arith)) ∙ but-one known xs b (omega arith) (λ k m n. h (suc k) (omega arith) (λ q. n (omega arith)))

others-false : (known clause : List Lit) (a b : ℕ) → FindIs known clause a b None → has_lit known (opposite (lit_at clause a)) ≡ true → (k : ℕ) → k < length clause → k ≢ b → has_lit known (opposite (lit_at clause k)) ≡ true
others-false known clause a b f g k l n =
    elim (same-or-not k a) [
      | inl s ↦ subst (λ (j : ℕ). has_lit known (opposite (lit_at clause j)) ≡ true) (sym s) g
      | inr m ↦ f k l m n
    ]
  where
    same-or-not : (k a : ℕ) → (k ≡ a) ⊎ (k ≢ a)
    same-or-not k a = grind arith

pub has-at : (clause : List Lit) (i : ℕ) → i < length clause → has_lit clause (lit_at clause i) ≡ true
has-at [] i l = absurd (no-place i l)
  where
    no-place : (i : ℕ) → i < 0 → ⊥
    no-place i l = omega arith
has-at (x ∷ xs) zero l = or_left (same_lit x x) (has_lit xs x) (same_lit-refl x)
has-at (x ∷ xs) (suc i) l = or_right (same_lit (lit_at xs i) x) (has_lit xs (lit_at xs i)) (has-at xs i (omega arith))

leaves-from : (known clause : List Lit) (b : ℕ) → b < length clause → not_false known clause ≡ not_false known (lit_at clause b ∷ []) → AllButOneFalse known clause (lit_at clause b)
leaves-from known clause b l e = record {
  has = has-at clause b l;
  fails = λ h. false-from-none known clause (e ∙ open-skipped known [] (lit_at clause b) h);
  forces = λ o.
      let parts = open-parts known (lit_at clause b) o in
      ap (λ (z : List Lit). only_open known z) (e ∙ open-kept known [] (lit_at clause b) parts.1) ∙ cond-false (has_lit known (lit_at clause b)) None (Some (lit_at clause b)) parts.0;
}

pub found-none : (known clause : List Lit) (a b : ℕ) → FindIs known clause a b None → b < length clause → has_lit known (opposite (lit_at clause a)) ≡ true → AllButOneFalse known clause (lit_at clause b)
found-none known clause a b f l g = leaves-from known clause b l (but-one known clause b l (others-false known clause a b f g))

-- a clause of two literals, one of which is false
pub pair-leaves : (known : List Lit) (l m : Lit) → has_lit known (opposite l) ≡ true → AllButOneFalse known (l ∷ m ∷ []) m
pair-leaves known l m h = leaves-from known (l ∷ m ∷ []) 1 (omega arith) (open-skipped known (m ∷ []) l h)

pub pair-leaves-first : (known : List Lit) (l m : Lit) → has_lit known (opposite l) ≡ true → AllButOneFalse known (m ∷ l ∷ []) m
pair-leaves-first known l m h =
    let rest : not_false known (l ∷ []) ≡ [] = open-skipped known [] l h in
    leaves-from known (m ∷ l ∷ []) 0 (omega arith) (ap (λ (z : List Lit). cond (not (has_lit known (opposite m))) (m ∷ z) z) rest)
