-- What a search in a list finds, how often a number is in a list, and a list with one changed element.
use Rattle.std.proofs.Common.{◌≡◌, ℕ, zero, suc, ◌+◌, ◌<◌, ◌≤◌, Bool, true, false, not, ◌||◌, cond, eqb, ◌⊎◌, inl, inr, List, [], ◌∷◌, ◌++◌, map, length, get_or, set, Some, None, refl, sym, ap, ◌∙◌, subst, arith}
use Rattle.std.specs.List.{count_by, find, list_any, sum_by}
use Rattle.std.proofs.lemmas.Bool.{cond-true, cond-false, eqb-true, eqb-false, ne_eqb, or_cases, or_right, true≢false, false≢true}
use Rattle.std.proofs.lemmas.List.Elements.{Contains-get_or}
use Rattle.std.proofs.lemmas.List.Sums.{sum_by-cons}
use Rattle.pack_defs.specs.Lists.{is_in, without}
use Rattle.pack_defs.proofs.Members.{Contains-here, is_in-from}
use Rattle.pack_defs.proofs.ClockSteps.{is_in-without}
use Rattle.pack_defs.proofs.Rounds.{Apart}
use Rattle.pack_defs.proofs.StationEntryLemmas.{count_absent, one_at}

-- no element satisfies p, or the search finds one that does
pub find_cases : {X : Type 0} (p : X → Bool) (xs : List X) →
    ((find p xs ≡ None) × (list_any p xs ≡ false) × (count_by p xs ≡ 0)) ⊎ ((x : X) × (find p xs ≡ Some x) × (p x ≡ true) × (list_any p xs ≡ true) × (1 ≤ count_by p xs))
find_cases p [] = inl (refl, refl, refl)
find_cases p (x ∷ xs) =
    let split = sum_by-cons (λ y. cond (p y) 1 0) x xs in
    (elim (p x) as (λ b. p x ≡ b → ((cond b (Some x) (find p xs) ≡ None) × ((b || list_any p xs) ≡ false) × (count_by p (x ∷ xs) ≡ 0)) ⊎ ((y : _) × (cond b (Some x) (find p xs) ≡ Some y) × (p y ≡ true) × ((b || list_any p xs) ≡ true) × (1 ≤ count_by p (x ∷ xs)))) [
      | true ↦ λ here.
          let one : cond {A = ℕ} (p x) 1 0 ≡ 1 = cond-true (p x) 1 0 here in
          inr (x, refl, here, refl, omega (arith, split, one))
      | false ↦ λ later.
          let is_zero : cond {A = ℕ} (p x) 1 0 ≡ 0 = cond-false (p x) 1 0 later in
          elim (find_cases p xs) [
            | inl none ↦ inl (none.0, none.1, omega (arith, split, is_zero, none.2))
            | inr found ↦ inr (found.0, found.1, found.2, found.3, omega (arith, split, is_zero, found.4))
          ]
    ]) refl

-- a search in a list with one more element, if none satisfied p before
pub find-push_new : {X : Type 0} (p : X → Bool) (xs : List X) (x : X) → count_by p xs ≡ 0 → p x ≡ true → find p (xs ++ x ∷ []) ≡ Some x
find-push_new p [] x none here = cond-true (p x) (Some x) None here
find-push_new p (y ∷ xs) x none here =
    let split = sum_by-cons (λ z. cond (p z) 1 0) y xs in
    (elim (p y) as (λ b. p y ≡ b → cond b (Some y) (find p (xs ++ x ∷ [])) ≡ Some x) [
      | true ↦ λ passes.
          let one : cond {A = ℕ} (p y) 1 0 ≡ 1 = cond-true (p y) 1 0 passes in
          absurd (omega (arith, split, one, none))
      | false ↦ λ _. find-push_new p xs x (omega (arith, split, none)) here
    ]) refl

-- leaving out a number that is at most once in a list removes it and keeps the others
pub count-without : (xs : List ℕ) (t s : ℕ) → is_in xs t ≡ true → sum_by (one_at s) xs ≤ 1 → one_at s t + sum_by (one_at s) (without xs t) ≡ sum_by (one_at s) xs
count-without xs t s there once =
    (elim (eqb t s) as (λ b. eqb t s ≡ b → one_at s t + sum_by (one_at s) (without xs t) ≡ sum_by (one_at s) xs) [
      | true ↦ λ same.
          let one : one_at s t ≡ 1 = cond-true (eqb t s) 1 0 same in
          let none : sum_by (one_at s) (without xs t) ≡ 0 = count_absent s _ (subst (λ x. is_in (without xs t) x ≡ false) (eqb-true t s same) (is_in-without xs t)) in
          let some : 1 ≤ sum_by (one_at s) xs = present xs (subst (λ x. is_in xs x ≡ true) (eqb-true t s same) there) in
          omega (arith, one, none, some, once)
      | false ↦ λ other.
          let none : one_at s t ≡ 0 = cond-false (eqb t s) 1 0 other in
          omega (arith, none, kept xs (eqb-false t s other))
    ]) refl
  where
    present : (ys : List ℕ) → is_in ys s ≡ true → 1 ≤ sum_by (one_at s) ys
    present [] h = absurd (false≢true h)
    present (y ∷ ys) h =
        elim (or_cases (eqb y s) (is_in ys s) h) [
          | inl here ↦ let one : one_at s y ≡ 1 = cond-true (eqb y s) 1 0 here in omega (arith, sum_by-cons (one_at s) y ys, one)
          | inr later ↦ omega (arith, sum_by-cons (one_at s) y ys, present ys later)
        ]

    kept : (ys : List ℕ) → (t ≡ s → ⊥) → sum_by (one_at s) (without ys t) ≡ sum_by (one_at s) ys
    kept [] other = refl
    kept (y ∷ ys) other =
        let rest = kept ys other in
        (elim (eqb y t) as (λ b. eqb y t ≡ b → sum_by (one_at s) (cond (not b) (y ∷ without ys t) (without ys t)) ≡ sum_by (one_at s) (y ∷ ys)) [
          | true ↦ λ here.
              let none : one_at s y ≡ 0 = cond-false (eqb y s) 1 0 (ne_eqb y s (λ e. other (sym (eqb-true y t here) ∙ e))) in
              omega (arith, sum_by-cons (one_at s) y ys, none, rest)
          | false ↦ λ _. omega (arith, sum_by-cons (one_at s) y ys, sum_by-cons (one_at s) y (without ys t), rest)
        ]) refl

-- a number is in a list that it heads
pub is_in-here : (x : ℕ) (xs : List ℕ) → is_in (x ∷ xs) x ≡ true
is_in-here x xs = is_in-from (x ∷ xs) x (Contains-here x xs)

pub is_in-later : (x y : ℕ) (xs : List ℕ) → is_in xs y ≡ true → is_in (x ∷ xs) y ≡ true
is_in-later x y xs there = or_right (eqb x y) (is_in xs y) there

-- two functions that agree on a list map it to the same list
pub map_agree : {Y : Type 0} (f g : ℕ → Y) (xs : List ℕ) → ((x : ℕ) → is_in xs x ≡ true → f x ≡ g x) → map f xs ≡ map g xs
map_agree f g [] same = refl
map_agree f g (x ∷ xs) same =
    let rest = map_agree f g xs (λ y there. same y (is_in-later x y xs there)) in
    ap (λ y. y ∷ map f xs) (same x (is_in-here x xs)) ∙ ap (λ ys. g x ∷ ys) rest

-- two functions that agree except at element i map to lists that differ only there
pub set-map : {Y : Type 0} (f g : ℕ → Y) (xs : List ℕ) (i : ℕ) (y : Y) → Apart xs → i < length xs → g (get_or xs i 0) ≡ y → ((x : ℕ) → (x ≡ get_or xs i 0 → ⊥) → f x ≡ g x) → set (map f xs) i y ≡ map g xs
set-map f g [] i y apart within at others = absurd (omega arith)
set-map f g (x ∷ xs) zero y apart within at others =
    ap (λ z. z ∷ map f xs) (sym at)
    ∙ ap (λ zs. g x ∷ zs) (map_agree f g xs (λ z there. others z (λ e. true≢false (sym there ∙ subst (λ w. is_in xs w ≡ false) (sym e) apart.0))))
set-map f g (x ∷ xs) (suc i) y apart within at others =
    let inside : i < length xs = omega arith in
    let there : is_in xs (get_or xs i 0) ≡ true = is_in-from xs (get_or xs i 0) (Contains-get_or xs i 0 inside) in
    ap (λ z. z ∷ set (map f xs) i y) (others x (λ e. true≢false (sym there ∙ subst (λ w. is_in xs w ≡ false) e apart.0)))
    ∙ ap (λ zs. g x ∷ zs) (set-map f g xs i y apart.1 inside at others)
