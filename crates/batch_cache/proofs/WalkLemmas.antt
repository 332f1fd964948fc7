-- A walk along two ascending lists finds each number of the second exactly if the first has them all.
use Rattle.std.proofs.Common.{◌≡◌, ℕ, zero, suc, ◌<◌, ◌≤◌, Bool, true, false, ◌&&◌, ◌||◌, ◌==◌, nat_eq, nat_lt, cond, List, [], ◌∷◌, length, drop, refl, sym, ap, ◌∙◌, subst, arith, ltb-true, lt_trans, eqb-true}
use Rattle.std.specs.List.{list_all}
use Rattle.std.proofs.lemmas.Bool.{and_parts, and_from}
use Rattle.std.proofs.lemmas.Bool.Decides.{nat_tests}
use Rattle.std.proofs.lemmas.List.{drop_all}
use Rattle.pack_defs.specs.Lists.{is_ascending, is_in}
use Rattle.pack_defs.proofs.Chains.{ascending-skip}
use Rattle.pack_defs.proofs.Words.{ascending-rest}
use Rattle.batch_cache.specs.Walks.{has_all_sorted}

pub not-same : (x y : ℕ) → x < y → (x == y) ≡ false
not-same x y h = grind (arith, nat_tests)

not-same-back : (x y : ℕ) → y < x → (x == y) ≡ false
not-same-back x y h = grind (arith, nat_tests)

-- An ascending list has no number below its first.
pub below-first : (x : ℕ) (xs : List ℕ) (y : ℕ) → is_ascending (x ∷ xs) ≡ true → y < x → is_in (x ∷ xs) y ≡ false
below-first x [] y h less = ap (λ (b : Bool). b || false) (not-same-back x y less)
below-first x (z ∷ zs) y h less =
    let parts = and_parts (nat_lt x z) (is_ascending (z ∷ zs)) h in
    ap (λ (b : Bool). b || is_in (z ∷ zs) y) (not-same-back x y less) ∙ below-first z zs y parts.1 (lt_trans less (ltb-true x z parts.0))

-- Numbers above the first are found after it.
above-first : (x : ℕ) (xs ys : List ℕ) → is_ascending (x ∷ ys) ≡ true → list_all (is_in (x ∷ xs)) ys ≡ list_all (is_in xs) ys
above-first x xs [] h = refl
above-first x xs (y ∷ ys) h =
    let parts = and_parts (nat_lt x y) (is_ascending (y ∷ ys)) h in
    ap (λ (b : Bool). (b || is_in xs y) && list_all (is_in (x ∷ xs)) ys) (not-same x y (ltb-true x y parts.0))
    ∙ ap (λ (b : Bool). is_in xs y && b) (above-first x xs ys (ascending-skip x y ys h))

-- The walk finds all exactly if the first list has all.
walk-tells : (xs ys : List ℕ) → is_ascending xs ≡ true → is_ascending ys ≡ true → has_all_sorted xs ys ≡ list_all (is_in xs) ys
walk-tells [] [] hx hy = refl
walk-tells [] (y ∷ ys) hx hy = refl
walk-tells (x ∷ xs) [] hx hy = refl
walk-tells (x ∷ xs) (y ∷ ys) hx hy =
    let rest = ascending-rest x xs hx in
    (elim (nat_lt y x) as (λ b. nat_lt y x ≡ b → cond b false (cond (y == x) (has_all_sorted xs ys) (has_all_sorted xs (y ∷ ys))) ≡ list_all (is_in (x ∷ xs)) (y ∷ ys)) [
      | true ↦ λ less. sym (ap (λ (b : Bool). b && list_all (is_in (x ∷ xs)) ys) (below-first x xs y hx (ltb-true y x less)))
      | false ↦ λ none. (elim (y == x) as (λ b. (y == x) ≡ b → cond b (has_all_sorted xs ys) (has_all_sorted xs (y ∷ ys)) ≡ list_all (is_in (x ∷ xs)) (y ∷ ys)) [
        | true ↦ λ e.
            let here : (x == y) ≡ true = grind (arith, nat_tests) in
            let above : is_ascending (x ∷ ys) ≡ true = subst (λ (z : ℕ). is_ascending (z ∷ ys) ≡ true) (eqb-true y x e) hy in
            walk-tells xs ys rest (ascending-rest y ys hy)
            ∙ sym (above-first x xs ys above)
            ∙ sym (ap (λ (b : Bool). (b || is_in xs y) && list_all (is_in (x ∷ xs)) ys) here)
        | false ↦ λ e.
            let less : nat_lt x y ≡ true = grind (arith, nat_tests) in
            walk-tells xs (y ∷ ys) rest hy
            ∙ sym (above-first x xs (y ∷ ys) (and_from (nat_lt x y) (is_ascending (y ∷ ys)) less hy))
      ]) refl
    ]) refl

-- The same for the lists behind two models.
pub told : (xs ys inside others : List ℕ) (a b : Bool) → inside ≡ xs → others ≡ ys → a ≡ is_ascending inside → b ≡ is_ascending others → a ≡ true → b ≡ true → has_all_sorted inside others ≡ list_all (is_in xs) ys
told xs ys inside others a b these those up also h k =
    walk-tells inside others (sym up ∙ h) (sym also ∙ k)
    ∙ (ap (λ (zs : List ℕ). list_all (is_in zs) others) these ∙ ap (list_all (is_in xs)) those)

-- A longer list is not found.
pub longer-not-found : (xs ys : List ℕ) → length xs < length ys → has_all_sorted xs ys ≡ false
longer-not-found [] [] h = absurd (omega arith)
longer-not-found [] (y ∷ ys) h = refl
longer-not-found (x ∷ xs) [] h = absurd (omega arith)
longer-not-found (x ∷ xs) (y ∷ ys) h =
    elim (nat_lt y x) as (λ b. cond b false (cond (y == x) (has_all_sorted xs ys) (has_all_sorted xs (y ∷ ys))) ≡ false) [
      | true ↦ refl
      | false ↦ elim (y == x) as (λ b. cond b (has_all_sorted xs ys) (has_all_sorted xs (y ∷ ys)) ≡ false) [
        | true ↦ longer-not-found xs ys (omega arith)
        | false ↦ longer-not-found xs (y ∷ ys) (omega arith)
      ]
    ]

-- ---- the end of a walk

none-sought : (xs : List ℕ) → has_all_sorted xs [] ≡ true
none-sought [] = refl
none-sought (x ∷ xs) = refl

pub all-found : (xs ys : List ℕ) (i j : ℕ) (all : Bool) → length ys ≤ j → has_all_sorted (drop i xs) (drop j ys) ≡ all → true ≡ all
all-found xs ys i j all h left = sym (none-sought (drop i xs)) ∙ (sym (ap (has_all_sorted (drop i xs)) (drop_all j ys h)) ∙ left)

none-left : (ys : List ℕ) (j : ℕ) → j ≤ length ys → nat_eq j (length ys) ≡ has_all_sorted [] (drop j ys)
none-left [] zero h = refl
none-left [] (suc j) h = absurd (omega arith)
none-left (y ∷ ys) zero h = grind (arith, nat_tests)
none-left (y ∷ ys) (suc j) h =
    let less : nat_eq (suc j) (suc (length ys)) ≡ nat_eq j (length ys) = grind (arith, nat_tests) in
    less ∙ none-left ys j (omega arith)

pub walked-along : (xs ys : List ℕ) (i j : ℕ) (all : Bool) → length xs ≤ i → j ≤ length ys → has_all_sorted (drop i xs) (drop j ys) ≡ all → nat_eq j (length ys) ≡ all
walked-along xs ys i j all h within left = none-left ys j within ∙ (sym (ap (λ (zs : List ℕ). has_all_sorted zs (drop j ys)) (drop_all i xs h)) ∙ left)
