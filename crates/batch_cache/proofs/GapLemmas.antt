-- A list that ascends lacks a number that would fill a gap of it.
use Rattle.std.proofs.Common.{◌≡◌, ℕ, zero, suc, ◌<◌, Bool, true, false, ◌||◌, ◌&&◌, nat_lt, List, [], ◌∷◌, refl, ap, ◌∙◌, ltb-true, lt_trans}
use Rattle.std.specs.Prelude.{slice_get}
use Rattle.std.specs.List.{list_all}
use Rattle.std.proofs.lemmas.Bool.{and_parts, not-true}
use Rattle.std.proofs.Math.Bool.{and-false}
use Rattle.pack_defs.specs.Lists.{is_ascending, is_in}
use Rattle.pack_defs.proofs.Words.{ascending-rest}
use Rattle.batch_cache.specs.Numbers.{last_below, continues_above, ends_below, has_gap, lacks_at}
use Rattle.batch_cache.proofs.WalkLemmas.{below-first, not-same}

-- The first number is below one that a later number is below.
first-below : (x : ℕ) (xs : List ℕ) (p n : ℕ) → is_ascending (x ∷ xs) ≡ true → last_below (slice_get (x ∷ xs) p) n ≡ true → x < n
first-below x xs zero n up h = ltb-true x n h
first-below x [] (suc p) n up h = cc
first-below x (y ∷ ys) (suc p) n up h =
    let parts = and_parts (nat_lt x y) (is_ascending (y ∷ ys)) up in
    lt_trans (ltb-true x y parts.0) (first-below y ys p n parts.1 h)

missing-behind : (x : ℕ) (xs : List ℕ) (n : ℕ) → x < n → is_in xs n ≡ false → is_in (x ∷ xs) n ≡ false
missing-behind x xs n less none = ap (λ (b : Bool). b || is_in xs n) (not-same x n less) ∙ none

missing : (xs : List ℕ) (p n : ℕ) → is_ascending xs ≡ true → continues_above xs p n ≡ true → ends_below xs p n ≡ true → is_in xs n ≡ false
missing [] p n up above below = refl
missing (x ∷ xs) zero n up above below = below-first x xs n up (ltb-true n x above)
missing (x ∷ xs) (suc zero) n up above below =
    missing-behind x xs n (first-below x xs zero n up below) (missing xs zero n (ascending-rest x xs up) above refl)
missing (x ∷ xs) (suc (suc p)) n up above below =
    missing-behind x xs n (first-below x xs (suc p) n up below) (missing xs (suc p) n (ascending-rest x xs up) above below)

pub gap-tells : (xs : List ℕ) (p n : ℕ) → is_ascending xs ≡ true → has_gap xs p n ≡ true → is_in xs n ≡ false
gap-tells xs p n up gap =
    let parts = and_parts (continues_above xs p n) (ends_below xs p n) gap in
    missing xs p n up parts.0 parts.1

-- A list that lacks one of some numbers does not have them all.
pub lacks-one : (xs ys : List ℕ) (place : ℕ) → lacks_at xs ys place ≡ true → list_all (is_in xs) ys ≡ false
lacks-one xs [] place h = cc
lacks-one xs (y ∷ ys) zero h = ap (λ (b : Bool). b && list_all (is_in xs) ys) (not-true (is_in xs y) h)
lacks-one xs (y ∷ ys) (suc place) h = ap (λ (b : Bool). is_in xs y && b) (lacks-one xs ys place h) ∙ and-false (is_in xs y)
