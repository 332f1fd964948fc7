-- The members of a list with one more station.
use Rattle.std.proofs.Common.{◌≡◌, ℕ, ◌<◌, true, false, cond, ◌==◌, nat_lt, List, [], ◌∷◌, ◌⊎◌, inl, inr, Contains, refl, sym, subst, ◌∙◌, arith, eqb-true, eq-eqb, ne_eqb}
use Rattle.std.proofs.lemmas.Bool.{cases_order, and_parts, and_from, cond-true, cond-false, lt-ltb, le-ltb}
use Rattle.pack_defs.specs.Lists.{is_ascending}
use Rattle.pack_defs.proofs.Members.{Contains-here, Contains-there, Contains-cons_cases, Contains-nil}
use Rattle.packing_graph.specs.Sets.{with_station}

pub with_station-has : (on : List ℕ) (s : ℕ) → Contains (with_station on s) s
with_station-has [] s = Contains-here s []
with_station-has (x ∷ xs) s =
    elim (nat_lt s x) as (λ b. Contains (cond b (s ∷ x ∷ xs) (cond (x == s) (x ∷ xs) (x ∷ with_station xs s))) s) [
      | true ↦ Contains-here s (x ∷ xs)
      | false ↦ (elim (x == s) as (λ b. (x == s) ≡ b → Contains (cond b (x ∷ xs) (x ∷ with_station xs s)) s) [
        | true ↦ λ e. subst (λ z. Contains (x ∷ xs) z) (eqb-true x s e) (Contains-here x xs)
        | false ↦ λ e. Contains-there x s (with_station xs s) (with_station-has xs s)
      ]) refl
    ]

pub with_station-gives : (on : List ℕ) (s t : ℕ) → Contains (with_station on s) t → (t ≡ s) ⊎ Contains on t
with_station-gives [] s t h =
    elim (Contains-cons_cases s t [] h) [ inl e ↦ inl (sym e) | inr l ↦ inr l ]
with_station-gives (x ∷ xs) s t h =
    (elim (nat_lt s x) as (λ b. Contains (cond b (s ∷ x ∷ xs) (cond (x == s) (x ∷ xs) (x ∷ with_station xs s))) t → (t ≡ s) ⊎ Contains (x ∷ xs) t) [
      | true ↦ λ l. elim (Contains-cons_cases s t (x ∷ xs) l) [ inl e ↦ inl (sym e) | inr m ↦ inr m ]
      | false ↦ elim (x == s) as (λ b. Contains (cond b (x ∷ xs) (x ∷ with_station xs s)) t → (t ≡ s) ⊎ Contains (x ∷ xs) t) [
        | true ↦ λ l. inr l
        | false ↦ λ l. elim (Contains-cons_cases x t (with_station xs s) l) [
          | inl e ↦ inr (subst (λ z. Contains (x ∷ xs) z) e (Contains-here x xs))
          | inr m ↦ elim (with_station-gives xs s t m) [ inl e ↦ inl e | inr k ↦ inr (Contains-there x t xs k) ]
        ]
      ]
    ]) h

-- The list keeps its members.
pub with_station-keeps : (on : List ℕ) (s t : ℕ) → Contains on t → Contains (with_station on s) t
with_station-keeps [] s t h = absurd (Contains-nil t h)
with_station-keeps (x ∷ xs) s t h =
    elim (nat_lt s x) as (λ b. Contains (cond b (s ∷ x ∷ xs) (cond (x == s) (x ∷ xs) (x ∷ with_station xs s))) t) [
      | true ↦ Contains-there s t (x ∷ xs) h
      | false ↦ elim (x == s) as (λ b. Contains (cond b (x ∷ xs) (x ∷ with_station xs s)) t) [
        | true ↦ h
        | false ↦ elim (Contains-cons_cases x t xs h) [
          | inl e ↦ subst (λ z. Contains (x ∷ with_station xs s) z) e (Contains-here x (with_station xs s))
          | inr l ↦ Contains-there x t (with_station xs s) (with_station-keeps xs s t l)
        ]
      ]
    ]

-- ---- the list still ascends

with_station-above : (b : ℕ) (xs : List ℕ) (s : ℕ) → is_ascending (b ∷ xs) ≡ true → b < s → is_ascending (b ∷ with_station xs s) ≡ true
with_station-above b [] s a l = and_from (nat_lt b s) true (lt-ltb b s l) refl
with_station-above b (x ∷ xs) s a l =
    let parts = and_parts (nat_lt b x) (is_ascending (x ∷ xs)) a in
    elim (cases_order s x) [
      | inl e ↦ subst (λ m. is_ascending (b ∷ m) ≡ true) (sym (cond-false (nat_lt s x) _ _ (le-ltb s x (omega arith)) ∙ cond-true (x == s) _ _ (eq-eqb x s (sym e)))) a
      | inr o ↦ elim o [
        | inl less ↦ subst (λ m. is_ascending (b ∷ m) ≡ true) (sym (cond-true (nat_lt s x) _ _ (lt-ltb s x less))) (and_from (nat_lt b s) (is_ascending (s ∷ x ∷ xs)) (lt-ltb b s l) (and_from (nat_lt s x) (is_ascending (x ∷ xs)) (lt-ltb s x less) parts.1))
        | inr more ↦ subst (λ m. is_ascending (b ∷ m) ≡ true) (sym (cond-false (nat_lt s x) _ _ (le-ltb s x (omega arith)) ∙ cond-false (x == s) _ _ (ne_eqb x s (λ e. omega arith)))) (and_from (nat_lt b x) (is_ascending (x ∷ with_station xs s)) parts.0 (with_station-above x xs s parts.1 more))
      ]
    ]

pub with_station-ascending : (xs : List ℕ) (s : ℕ) → is_ascending xs ≡ true → is_ascending (with_station xs s) ≡ true
with_station-ascending [] s a = refl
with_station-ascending (x ∷ xs) s a =
    elim (cases_order s x) [
      | inl e ↦ subst (λ m. is_ascending m ≡ true) (sym (cond-false (nat_lt s x) _ _ (le-ltb s x (omega arith)) ∙ cond-true (x == s) _ _ (eq-eqb x s (sym e)))) a
      | inr o ↦ elim o [
        | inl less ↦ subst (λ m. is_ascending m ≡ true) (sym (cond-true (nat_lt s x) _ _ (lt-ltb s x less))) (and_from (nat_lt s x) (is_ascending (x ∷ xs)) (lt-ltb s x less) a)
        | inr more ↦ subst (λ m. is_ascending m ≡ true) (sym (cond-false (nat_lt s x) _ _ (le-ltb s x (omega arith)) ∙ cond-false (x == s) _ _ (ne_eqb x s (λ e. omega arith)))) (with_station-above x xs s a more)
      ]
    ]
