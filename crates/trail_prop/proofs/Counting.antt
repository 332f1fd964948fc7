-- How often an item is in a list that is changed at one place.
use Rattle.std.proofs.Common.{◌≡◌, ◌≢◌, ℕ, ◌+◌, ◌-◌, ◌<◌, ◌≤◌, Bool, true, false, cond, ◌==◌, List, [], ◌∷◌, ◌++◌, length, get_or, take, refl, ap, arith, eqb-true}
use Rattle.std.specs.Prelude.{slice_set, swap_remove, count_by}
use Rattle.std.specs.List.{All}
use Rattle.std.proofs.lemmas.Bool.{false_from_ne_true}
use Rattle.std.proofs.lemmas.Grind.{common_steps}
use Rattle.std.proofs.lemmas.List.Sums.{sum_by-append, sum_by-cons, sum_by-set, sum_by-swap_remove}
use Rattle.std.proofs.lemmas.List.Elements.{All-take, All-set, All-get_or, All-head, All-tail}

abbrev one_if : {X : Type 0} → (X → Bool) → X → ℕ
one_if p x = cond {A = ℕ} (p x) 1 0

pub count-push : {X : Type 0} (p : X → Bool) (xs : List X) (x : X) → count_by p xs ≤ count_by p (xs ++ x ∷ [])
count-push p xs x = omega (arith, sum_by-append (one_if p) xs (x ∷ []))

pub count-pushed : {X : Type 0} (p : X → Bool) (xs : List X) (x : X) → p x ≡ true → 0 < count_by p (xs ++ x ∷ [])
count-pushed p xs x h =
    let one : one_if p x ≡ 1 = ap (λ (b : Bool). cond {A = ℕ} b 1 0) h in
    omega (arith, sum_by-append (one_if p) xs (x ∷ []), sum_by-cons (one_if p) x [], one)

pub count-set : {X : Type 0} (p : X → Bool) (xs : List X) (i : ℕ) (y d : X) → i < length xs → p y ≡ p (get_or xs i d) → count_by p (slice_set xs i y) ≡ count_by p xs
count-set p xs i y d l h =
    let same : one_if p y ≡ one_if p (get_or xs i d) = ap (λ (b : Bool). cond {A = ℕ} b 1 0) h in
    omega (arith, sum_by-set (one_if p) xs i y d l, same)

pub count-removed : {X : Type 0} (p : X → Bool) (xs : List X) (i : ℕ) (d : X) → i < length xs → p (get_or xs i d) ≡ false → count_by p (swap_remove xs i d) ≡ count_by p xs
count-removed p xs i d l h =
    let none : one_if p (get_or xs i d) ≡ 0 = ap (λ (b : Bool). cond {A = ℕ} b 1 0) h in
    omega (arith, sum_by-swap_remove (one_if p) xs i d l, none)

-- an item of a list has what all its items have
pub found : {X : Type 0} (p : X → Bool) (P : X → Type 0) (xs : List X) → 0 < count_by p xs → All P xs → (x : X) × (p x ≡ true) × P x
found {X} p P [] h a = absurd (omega arith)
found {X} p P (x ∷ xs) h a = go (p x) refl (found p P xs)
  where
    go : (b : Bool) → p x ≡ b → (0 < count_by p xs → All P xs → (y : X) × (p y ≡ true) × P y) → (y : X) × (p y ≡ true) × P y
    go true e f = (x, e, All-head P x xs a)
    go false e f =
        let none : one_if p x ≡ 0 = ap (λ (b : Bool). cond {A = ℕ} b 1 0) e in
        f (omega (arith, h, sum_by-cons (one_if p) x xs, none)) (All-tail P x xs a)

pub all-removed : {X : Type 0} (P : X → Type 0) (xs : List X) (i : ℕ) (d : X) → i < length xs → All P xs → All P (swap_remove xs i d)
all-removed P xs i d l a = All-take P (length xs - 1) (slice_set xs i (get_or xs (length xs - 1) d)) (All-set P xs i (get_or xs (length xs - 1) d) (All-get_or P xs (length xs - 1) d (omega arith) a) a)

pub take-removed : {X : Type 0} (xs : List X) (i : ℕ) (d : X) → i < length xs → take i (swap_remove xs i d) ≡ take i xs
take-removed xs i d l = grind (arith, common_steps)

pub length-removed : {X : Type 0} (xs : List X) (i : ℕ) (d : X) → i < length xs → length (swap_remove xs i d) + 1 ≡ length xs
length-removed xs i d l = grind (arith, common_steps)

pub not-same : (m n : ℕ) → m ≢ n → (m == n) ≡ false
not-same m n h = false_from_ne_true (m == n) (λ t. h (eqb-true m n t))
