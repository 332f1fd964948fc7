-- The pairs of one station, between two places of a list in which that station never falls.
use Rattle.std.proofs.Common.{◌≡◌, ℕ, zero, suc, ◌+◌, ◌-◌, ◌<◌, ◌≤◌, Bool, true, false, not, ◌==◌, ◌&&◌, nat_lt, nat_le, List, [], ◌∷◌, filter, length, get_or, take, drop, refl, sym, ap, ◌∙◌, arith, take_all, length-drop}
use Rattle.std.specs.List.Sorted.{IsNonDecreasingBy, IsPartitionPoint, IsStableByKey, ties}
use Rattle.std.specs.Ordering.{nat_cmp, is_lt}
use Rattle.std.proofs.lemmas.Bool.{cond-true, cond-false}
use Rattle.std.proofs.lemmas.Bool.Decides.{nat_tests}
use Rattle.std.proofs.lemmas.List.{get_or-drop}
use Rattle.std.proofs.lemmas.List.Elements.{filter_agree}
use Rattle.std.proofs.lemmas.List.Sorted.{IsNonDecreasingBy-from_all_adjacent}
use Rattle.pack_defs.specs.declared.pair.Pair.{Pair}
use Rattle.pack_defs.specs.Book.{pairs_ascend}
use Rattle.pack_defs.proofs.Searches.{pair_cmp, sorted-pairs}

-- A front part in which nothing passes doesn't matter to a filter.
passed-over : {X : Type 0} (p : X → Bool) (a : ℕ) (xs : List X) → ((k : ℕ) (d : X) → k < a → k < length xs → p (get_or xs k d) ≡ false) → filter p (drop a xs) ≡ filter p xs
passed-over p zero xs h = refl
passed-over p (suc a) [] h = refl
passed-over p (suc a) (x ∷ xs) h =
    passed-over p a xs (λ k d l u. h (suc k) d (omega arith) (omega arith))
    ∙ sym (cond-false (p x) (x ∷ filter p xs) (filter p xs) (h 0 x (omega arith) (omega arith)))

none-passes : {X : Type 0} (p : X → Bool) (xs : List X) → ((k : ℕ) (d : X) → k < length xs → p (get_or xs k d) ≡ false) → filter p xs ≡ []
none-passes p [] h = refl
none-passes p (x ∷ xs) h =
    cond-false (p x) (x ∷ filter p xs) (filter p xs) (h 0 x (omega arith)) ∙ none-passes p xs (λ k d l. h (suc k) d (omega arith))

-- If the front passes and nothing behind it does, the filter is the front.
front-passes : {X : Type 0} (p : X → Bool) (n : ℕ) (xs : List X) → ((k : ℕ) (d : X) → k < n → k < length xs → p (get_or xs k d) ≡ true) → ((k : ℕ) (d : X) → n ≤ k → k < length xs → p (get_or xs k d) ≡ false) → take n xs ≡ filter p xs
front-passes p zero xs h g = sym (none-passes p xs (λ k d l. g k d (omega arith) l))
front-passes p (suc n) [] h g = refl
front-passes p (suc n) (x ∷ xs) h g =
    ap (λ (ys : List _). x ∷ ys) (front-passes p n xs (λ k d l u. h (suc k) d (omega arith) (omega arith)) (λ k d l u. g (suc k) d (omega arith) (omega arith)))
    ∙ sym (cond-true (p x) (x ∷ filter p xs) (filter p xs) (h 0 x (omega arith) (omega arith)))

below : (a b : ℕ) → nat_lt a b ≡ true → (a == b) ≡ false
below a b h = grind (arith, nat_tests)

above : (a b : ℕ) → nat_le a b ≡ false → (a == b) ≡ false
above a b h = grind (arith, nat_tests)

between : (a b : ℕ) → nat_lt a b ≡ false → nat_le a b ≡ true → (a == b) ≡ true
between a b h g = grind (arith, nat_tests)

-- The elements with the key lie between the place of the first that isn't below it and the place of the first above it.
pub span-is : {X : Type 0} (key : X → ℕ) (k a n : ℕ) (xs : List X) → IsPartitionPoint (λ y. nat_lt (key y) k ≡ true) (λ y. nat_lt (key y) k ≡ false) xs a → IsPartitionPoint (λ y. nat_le (key y) k ≡ true) (λ y. nat_le (key y) k ≡ false) (drop a xs) n → take n (drop a xs) ≡ filter (λ y. key y == k) xs
span-is key k a n xs low high =
    front-passes (λ y. key y == k) n (drop a xs)
    (λ i d l u.
    let past : a + i < length xs = omega (arith, u, length-drop a xs) in
    let least : nat_lt (key (get_or (drop a xs) i d)) k ≡ false = rw (get_or-drop a xs i d) (low.1 (a + i) d (omega arith) past) in
    between (key (get_or (drop a xs) i d)) k least (high.0 i d (omega arith) l))
    (λ i d l u. above (key (get_or (drop a xs) i d)) k (high.1 i d l u))
    ∙ passed-over (λ y. key y == k) a xs (λ i d l u. below (key (get_or xs i d)) k (low.0 i d (omega arith) l))

-- From a place on, the complete rest.
pub whole-rest : {X : Type 0} (xs : List X) (a : ℕ) → take (length xs - a) (drop a xs) ≡ drop a xs
whole-rest xs a = take_all (length xs - a) (drop a xs) (omega (arith, length-drop a xs))

first-rises : (p q : Pair) → is_lt (pair_cmp q p) ≡ false → p.f ≤ q.f
first-rises p q h = grind (arith, nat_tests)

-- Pairs that ascend have first stations that never fall.
pub firsts-rise : (ps : List Pair) → pairs_ascend ps ≡ true → IsNonDecreasingBy (λ p. p.f) ps
firsts-rise ps h =
    IsNonDecreasingBy-from_all_adjacent (λ p. p.f) ps (λ k d l. first-rises (get_or ps k d) (get_or ps (k + 1) d) (sorted-pairs ps h k d (omega arith) l))

pub ties-same : (a b : ℕ) → (not (is_lt (nat_cmp a b)) && not (is_lt (nat_cmp b a))) ≡ (b == a)
ties-same a b = grind (arith, nat_tests)

-- A stable sort by the second station keeps the order of each station's pairs.
pub seconds-same : (ps qs : List Pair) → IsStableByKey (λ p. p.g) nat_cmp ps qs → (g : ℕ) → filter (λ p. p.g == g) qs ≡ filter (λ p. p.g == g) ps
seconds-same ps qs h g =
    let of : Pair = record { f = 0; a = 0; g = g; b = 0 } in
    let test : Pair → Bool = ties (λ x y. is_lt (nat_cmp x.g y.g)) of in
    let alike : (p : Pair) → test p ≡ (p.g == g) = λ p. ties-same g p.g in
    sym (filter_agree test (λ p. p.g == g) alike qs) ∙ h of ∙ filter_agree test (λ p. p.g == g) alike ps
