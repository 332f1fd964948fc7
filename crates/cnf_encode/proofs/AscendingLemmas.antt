-- Ascending lists: binary search, length, and how many numbers of one are in another.
use Rattle.std.proofs.Common.{◌≡◌, ℕ, zero, suc, ◌+◌, ◌<◌, ◌≤◌, Bool, true, false, ◌==◌, ◌||◌, nat_lt, List, [], ◌∷◌, cond, length, get_or, take, refl, arith, ⊎_elim, eqb-true, eq-eqb, ne_eqb, map-id, Fits, w8}
use Rattle.std.specs.List.{count_by}
use Rattle.std.specs.List.Sorted.{IsNonDecreasingBy, IsPartitionPoint}
use Rattle.std.proofs.lemmas.Bool.{and_parts, and_from, cond-true, cond-false, or_cases, or_left, or_right}
use Rattle.std.proofs.lemmas.Bool.Decides.{nat_tests}
use Rattle.std.proofs.lemmas.List.Sorted.{IsNonDecreasingBy-from_all_adjacent}
use Rattle.std.proofs.lemmas.List.Sums.{sum_by-cons}
use Rattle.pack_defs.specs.Lists.{is_in, is_ascending}
use Rattle.std.proofs.lemmas.List.{get_or_default}
use Rattle.pack_defs.proofs.Members.{is_in-gives}
use Rattle.pack_defs.proofs.Searches.{sorted-keys, rises-step}
use Rattle.pack_defs.proofs.Words.{below-later, ascending-rest}

-- an ascending list does not fall
pub rising : (xs : List ℕ) → is_ascending xs ≡ true → IsNonDecreasingBy (λ x. x) xs
rising xs a =
    let sorted = sorted-keys (λ x. x) xs (rw map-id a) in
    IsNonDecreasingBy-from_all_adjacent (λ x. x) xs (λ k d l. rises-step (get_or xs k d) (get_or xs (k + 1) d) (sorted k d (omega arith) l))

not-above : (x k : ℕ) → nat_lt x k ≡ false → k ≤ x
not-above x k h = grind (arith, nat_tests)

above : (x k : ℕ) → nat_lt x k ≡ true → x < k
above x k h = grind (arith, nat_tests)

-- a number of the list is at the place where the lower ones end
pub place-is : (xs : List ℕ) (k n : ℕ) → is_ascending xs ≡ true → is_in xs k ≡ true → IsPartitionPoint (λ y. nat_lt y k ≡ true) (λ y. nat_lt y k ≡ false) xs n → (n < length xs) × (get_or xs n 0 ≡ k)
place-is [] k n a m h = cc
place-is (x ∷ xs) k zero a m h =
    let least : k ≤ x = not-above x k (h.1 0 0 (omega arith) (omega arith)) in
    (omega arith, ⊎_elim (λ e. eqb-true x k e) (λ r. let more : x < k = below-later x xs k a r in absurd (omega arith)) (or_cases (x == k) (is_in xs k) m))
place-is (x ∷ xs) k (suc n) a m h =
    let less : x < k = above x k (h.0 0 0 (omega arith) (omega arith)) in
    let rest : is_in xs k ≡ true = ⊎_elim (λ e. let same : x ≡ k = eqb-true x k e in absurd (omega arith)) (λ r. r) (or_cases (x == k) (is_in xs k) m) in
    let later = place-is xs k n (ascending-rest x xs a) rest (λ i d l u. h.0 (suc i) d (omega arith) (omega arith), λ i d l u. h.1 (suc i) d (omega arith) (omega arith)) in
    (omega arith, later.1)

-- at most as many numbers as there are between two bounds
pub ascending-length : (xs : List ℕ) (low n : ℕ) → is_ascending xs ≡ true → low ≤ n → ((x : ℕ) → is_in xs x ≡ true → (low ≤ x) × (x < n)) → low + length xs ≤ n
ascending-length [] low n a l h = omega arith
ascending-length (x ∷ xs) low n a l h =
    let own = h x (or_left (x == x) (is_in xs x) (eq-eqb x x refl)) in
    let rest = ascending-length xs (x + 1) n (ascending-rest x xs a) (omega arith)
    (λ y m. let less : x < y = below-later x xs y a m in let high = (h y (or_right (x == y) (is_in xs y) m)).1 in (omega arith, high)) in
    omega arith

-- ascending bytes are at most 256
pub few-bytes : (xs : List ℕ) → is_ascending xs ≡ true → ((i : ℕ) → Fits w8 (get_or xs i 0)) → length xs ≤ 256
few-bytes xs a h =
    let room = ascending-length xs 0 256 a (omega arith)
    (λ x m.
    let at = is_in-gives xs x m in
    let byte : get_or xs at.0 0 < 256 = omega (arith, h at.0) in
    let same : get_or xs at.0 x ≡ get_or xs at.0 0 = get_or_default xs at.0 x 0 at.1 in
    (omega arith, omega (arith, at.2))) in
    omega arith

pub ascending-take : (xs : List ℕ) (i : ℕ) → is_ascending xs ≡ true → is_ascending (take i xs) ≡ true
ascending-take xs zero a = refl
ascending-take [] (suc i) a = refl
ascending-take (x ∷ []) (suc zero) a = refl
ascending-take (x ∷ []) (suc (suc i)) a = refl
ascending-take (x ∷ y ∷ ys) (suc zero) a = refl
ascending-take (x ∷ y ∷ ys) (suc (suc i)) a =
    let parts = and_parts (nat_lt x y) (is_ascending (y ∷ ys)) a in
    and_from (nat_lt x y) (is_ascending (take (suc i) (y ∷ ys))) parts.0 (ascending-take (y ∷ ys) (suc i) parts.1)

count-none : (p : ℕ → Bool) (ys : List ℕ) → ((y : ℕ) → is_in ys y ≡ true → p y ≡ false) → count_by p ys ≡ 0
count-none p [] h = refl
count-none p (y ∷ ys) h =
    let rest = count-none p ys (λ z m. h z (or_right (y == z) (is_in ys z) m)) in
    let own : cond {A = ℕ} (p y) 1 0 ≡ 0 = cond-false (p y) 1 0 (h y (or_left (y == y) (is_in ys y) (eq-eqb y y refl))) in
    omega (arith, sum_by-cons (λ z. cond (p z) 1 0) y ys)

-- a number occurs at most once in an ascending list
count-once : (x : ℕ) (ys : List ℕ) → is_ascending ys ≡ true → count_by (λ y. x == y) ys ≤ 1
count-once x [] a = omega arith
count-once x (y ∷ ys) a =
    let whole = sum_by-cons (λ z. cond (x == z) 1 0) y ys in
    let later = count-once x ys (ascending-rest y ys a) in
    (elim (x == y) as (λ b. (x == y) ≡ b → count_by (λ z. x == z) (y ∷ ys) ≤ 1) [
      | true ↦ λ e.
          let same : x ≡ y = eqb-true x y e in
          let none = count-none (λ z. x == z) ys (λ z m. let less : y < z = below-later y ys z a m in ne_eqb x z (λ q. omega arith)) in
          let own : cond {A = ℕ} (x == y) 1 0 ≡ 1 = cond-true (x == y) 1 0 e in
          omega arith
      | false ↦ λ e. let own : cond {A = ℕ} (x == y) 1 0 ≡ 0 = cond-false (x == y) 1 0 e in omega arith
    ]) refl

count-either : (p q : ℕ → Bool) (ys : List ℕ) → count_by (λ y. p y || q y) ys ≤ count_by p ys + count_by q ys
count-either p q [] = omega arith
count-either p q (y ∷ ys) =
    let rest = count-either p q ys in
    let whole = sum_by-cons (λ z. cond (p z || q z) 1 0) y ys in
    let first = sum_by-cons (λ z. cond (p z) 1 0) y ys in
    let second = sum_by-cons (λ z. cond (q z) 1 0) y ys in
    let own : cond {A = ℕ} (p y || q y) 1 0 ≤ cond {A = ℕ} (p y) 1 0 + cond {A = ℕ} (q y) 1 0 =
    elim (p y) as (λ b. cond {A = ℕ} (b || q y) 1 0 ≤ cond {A = ℕ} b 1 0 + cond {A = ℕ} (q y) 1 0) [ true ↦ omega arith | false ↦ omega arith ] in
    omega arith

-- at most as many numbers of an ascending list are in another list as that one is long
pub count-most : (xs ys : List ℕ) → is_ascending ys ≡ true → count_by (is_in xs) ys ≤ length xs
count-most [] ys a = omega (arith, count-none (λ y. false) ys (λ y m. refl))
count-most (x ∷ xs) ys a =
    let one = count-once x ys a in
    let rest = count-most xs ys a in
    let both = count-either (λ y. x == y) (is_in xs) ys in
    omega arith
