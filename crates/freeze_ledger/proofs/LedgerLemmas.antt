-- What one more entry does to a ledger's list. For `ledger`.
use Rattle.std.proofs.Common.{◌≡◌, ℕ, zero, suc, ◌+◌, ◌<◌, ◌≤◌, true, false, cond, eqb, nat_lt, List, [], ◌∷◌, map, length, get_or, Some, None, refl, sym, ap, ◌∙◌, arith}
use Rattle.std.specs.List.{insert}
use Rattle.std.specs.List.Sorted.{IsNonDecreasingBy, IsPartitionPoint}
use Rattle.std.proofs.lemmas.Bool.{and_from, and_parts, cond-true, cond-false, ltb-true, lt-ltb, ne_eqb, eq-eqb}
use Rattle.std.proofs.lemmas.Bool.Decides.{nat_tests}
use Rattle.std.proofs.lemmas.List.Sorted.{IsNonDecreasingBy-from_all_adjacent}
use Rattle.std.proofs.lemmas.List.Sums.{sum_by-cons}
use Rattle.pack_defs.specs.ChannelMap.{IsAscending, channel_of}
use Rattle.pack_defs.specs.Lists.{is_ascending}
use Rattle.pack_defs.proofs.Searches.{sorted-keys, rises-step}
use Rattle.freeze_ledger.specs.Ledger.{price_of, sum_paid, with_price}

-- ---- a binary search

-- the stations of an ascending list do not fall
pub rising : (xs : List (ℕ × ℕ)) → IsAscending xs → IsNonDecreasingBy (λ x. x.0) xs
rising xs a =
    let sorted = sorted-keys (λ (x : ℕ × ℕ). x.0) xs a in
    IsNonDecreasingBy-from_all_adjacent (λ x. x.0) xs (λ k d l. rises-step (get_or xs k d).0 (get_or xs (k + 1) d).0 (sorted k d (omega arith) l))

-- the entry goes after the lower stations
pub insert-place : (s price : ℕ) (xs : List (ℕ × ℕ)) (n : ℕ) → n ≤ length xs → IsPartitionPoint (λ y. nat_lt y.0 s ≡ true) (λ y. nat_lt y.0 s ≡ false) xs n → insert xs n (s, price) ≡ with_price s price xs
insert-place s price [] zero l h = refl
insert-place s price [] (suc n) l h = absurd (omega arith)
insert-place s price (x ∷ xs) zero l h = sym (cond-false (nat_lt x.0 s) (x ∷ with_price s price xs) ((s, price) ∷ x ∷ xs) (h.1 0 x (omega arith) (omega arith)))
insert-place s price (x ∷ xs) (suc n) l h =
    ap (λ ys. x ∷ ys) (insert-place s price xs n (omega arith) (λ i d l u. h.0 (suc i) d (omega arith) (omega arith), λ i d l u. h.1 (suc i) d (omega arith) (omega arith)))
    ∙ sym (cond-true (nat_lt x.0 s) (x ∷ with_price s price xs) ((s, price) ∷ x ∷ xs) (h.0 0 x (omega arith) (omega arith)))

-- the price of a station is looked up like a channel in a channel map
pub price-entry : (s : ℕ) (xs : List (ℕ × ℕ)) → channel_of s xs ≡ price_of s xs
price-entry s [] = refl
price-entry s (x ∷ xs) = ap (λ o. cond (eqb x.0 s) (Some x.1) o) (price-entry s xs)

-- ---- one more entry

pub sum-with : (s price : ℕ) (xs : List (ℕ × ℕ)) → sum_paid (with_price s price xs) ≡ sum_paid xs + price
sum-with s price [] = omega arith
sum-with s price (x ∷ xs) =
    let rest = sum-with s price xs in
    let own = sum_by-cons (λ (e : ℕ × ℕ). e.1) x xs in
    elim (nat_lt x.0 s) as (λ b. sum_paid (cond b (x ∷ with_price s price xs) ((s, price) ∷ x ∷ xs)) ≡ sum_paid (x ∷ xs) + price) [
      | true ↦ omega (arith, rest, own, sum_by-cons (λ (e : ℕ × ℕ). e.1) x (with_price s price xs))
      | false ↦ omega (arith, own, sum_by-cons (λ (e : ℕ × ℕ). e.1) (s, price) (x ∷ xs))
    ]

pub length-with : (s price : ℕ) (xs : List (ℕ × ℕ)) → length (with_price s price xs) ≡ length xs + 1
length-with s price [] = omega arith
length-with s price (x ∷ xs) =
    let rest = length-with s price xs in
    elim (nat_lt x.0 s) as (λ b. length (cond b (x ∷ with_price s price xs) ((s, price) ∷ x ∷ xs)) ≡ length (x ∷ xs) + 1) [
      | true ↦ omega (arith, rest)
      | false ↦ omega arith
    ]

-- the station has its price
pub price-own : (s price : ℕ) (xs : List (ℕ × ℕ)) → price_of s (with_price s price xs) ≡ Some price
price-own s price [] = cond-true (eqb s s) (Some price) None (eq-eqb s s refl)
price-own s price (x ∷ xs) =
    (elim (nat_lt x.0 s) as (λ b. nat_lt x.0 s ≡ b → price_of s (cond b (x ∷ with_price s price xs) ((s, price) ∷ x ∷ xs)) ≡ Some price) [
      | true ↦ λ less. let below : x.0 < s = ltb-true x.0 s less in
          cond-false (eqb x.0 s) (Some x.1) (price_of s (with_price s price xs)) (ne_eqb x.0 s (λ e. absurd (omega arith))) ∙ price-own s price xs
      | false ↦ λ _. cond-true (eqb s s) (Some price) (price_of s (x ∷ xs)) (eq-eqb s s refl)
    ]) refl

-- every other station keeps its price
pub price-other : (s price t : ℕ) (xs : List (ℕ × ℕ)) → eqb s t ≡ false → price_of t (with_price s price xs) ≡ price_of t xs
price-other s price t [] other = cond-false (eqb s t) (Some price) None other
price-other s price t (x ∷ xs) other =
    elim (nat_lt x.0 s) as (λ b. price_of t (cond b (x ∷ with_price s price xs) ((s, price) ∷ x ∷ xs)) ≡ price_of t (x ∷ xs)) [
      | true ↦ ap (λ o. cond (eqb x.0 t) (Some x.1) o) (price-other s price t xs other)
      | false ↦ cond-false (eqb s t) (Some price) (price_of t (x ∷ xs)) other
    ]

-- ---- the list still ascends

-- an absent station is neither the first nor among the others
not-here : (s : ℕ) (x : ℕ × ℕ) (xs : List (ℕ × ℕ)) → price_of s (x ∷ xs) ≡ None → (eqb x.0 s ≡ false) × (price_of s xs ≡ None)
not-here s x xs none =
    (elim (eqb x.0 s) as (λ b. eqb x.0 s ≡ b → cond b (Some x.1) (price_of s xs) ≡ None → (eqb x.0 s ≡ false) × (price_of s xs ≡ None)) [
      | true ↦ λ _ h. absurd (cc h)
      | false ↦ λ other h. (other, h)
    ]) refl none

above : (x s : ℕ) → nat_lt x s ≡ false → eqb x s ≡ false → s < x
above x s h g = grind (arith, nat_tests)

-- an entry above b inserted among entries above b leaves them all above b
with-above : (b s price : ℕ) (xs : List (ℕ × ℕ)) → price_of s xs ≡ None → is_ascending (b ∷ map (λ x. x.0) xs) ≡ true → b < s → is_ascending (b ∷ map (λ x. x.0) (with_price s price xs)) ≡ true
with-above b s price [] none a l = and_from (nat_lt b s) true (lt-ltb b s l) refl
with-above b s price (x ∷ xs) none a l =
    let parts = and_parts (nat_lt b x.0) (is_ascending (x.0 ∷ map (λ (y : ℕ × ℕ). y.0) xs)) a in
    let apart = not-here s x xs none in
    (elim (nat_lt x.0 s) as (λ low. nat_lt x.0 s ≡ low → is_ascending (b ∷ map (λ (y : ℕ × ℕ). y.0) (cond low (x ∷ with_price s price xs) ((s, price) ∷ x ∷ xs))) ≡ true) [
      | true ↦ λ less. and_from (nat_lt b x.0) (is_ascending (x.0 ∷ map (λ (y : ℕ × ℕ). y.0) (with_price s price xs))) parts.0 (with-above x.0 s price xs apart.1 parts.1 (ltb-true x.0 s less))
      | false ↦ λ more. and_from (nat_lt b s) (is_ascending (s ∷ x.0 ∷ map (λ (y : ℕ × ℕ). y.0) xs)) (lt-ltb b s l)
          (and_from (nat_lt s x.0) (is_ascending (x.0 ∷ map (λ (y : ℕ × ℕ). y.0) xs)) (lt-ltb s x.0 (above x.0 s more apart.0)) parts.1)
    ]) refl

pub with-ascending : (s price : ℕ) (xs : List (ℕ × ℕ)) → price_of s xs ≡ None → IsAscending xs → IsAscending (with_price s price xs)
with-ascending s price [] none a = refl
with-ascending s price (x ∷ xs) none a =
    let apart = not-here s x xs none in
    (elim (nat_lt x.0 s) as (λ low. nat_lt x.0 s ≡ low → IsAscending (cond low (x ∷ with_price s price xs) ((s, price) ∷ x ∷ xs))) [
      | true ↦ λ less. with-above x.0 s price xs apart.1 a (ltb-true x.0 s less)
      | false ↦ λ more. and_from (nat_lt s x.0) (is_ascending (x.0 ∷ map (λ (y : ℕ × ℕ). y.0) xs)) (lt-ltb s x.0 (above x.0 s more apart.0)) a
    ]) refl
