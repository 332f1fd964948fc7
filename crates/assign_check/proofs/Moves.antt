-- For `assignment`: an ascending map in which a station moves, and its stations one by one.
use Rattle.std.proofs.Common.{◌≡◌, ℕ, zero, suc, ◌+◌, ◌<◌, true, false, ◌==◌, ◌||◌, List, [], ◌∷◌, map, take, set, length, get_or, inl, inr, sym, ap, ◌∙◌, arith, eqb-true, ne_eqb}
use Rattle.std.proofs.lemmas.Bool.{or_cases}
use Rattle.std.proofs.lemmas.List.{get_or_default, take_more}
use Rattle.std.proofs.lemmas.List.Folds.{list_any-append}
use Rattle.std.proofs.Math.Bool.{or-false}
use Rattle.pack_defs.specs.ChannelMap.{IsAscending, put}
use Rattle.pack_defs.specs.Lists.{has_station}
use Rattle.pack_defs.proofs.MapLemmas.{put-behind, put-here, stations}
use Rattle.pack_defs.proofs.Members.{Contains-map, is_in-from}
use Rattle.pack_defs.proofs.Words.{below-later, ascending-rest, list_any-map}

-- the first station is below that of each later place
first-below : (y : ℕ × ℕ) (ys : List (ℕ × ℕ)) (i : ℕ) (d : ℕ × ℕ) → IsAscending (y ∷ ys) → i < length ys → y.0 < (get_or ys i d).0
first-below y ys i d a l =
    below-later y.0 (stations ys) (get_or ys i d).0 a (is_in-from (stations ys) (get_or ys i d).0 (Contains-map (λ z. z.0) ys (get_or ys i d) (i, l, get_or_default ys i (get_or ys i d) d l)))

-- moving the station at a place writes to this place
pub put-at : (xs : List (ℕ × ℕ)) (x : ℕ × ℕ) (i : ℕ) (d : ℕ × ℕ) → IsAscending xs → i < length xs → (get_or xs i d).0 ≡ x.0 → set xs i x ≡ put x xs
put-at [] x i d a l e = absurd (omega arith)
put-at (y ∷ ys) x zero d a l e = sym (put-here x y ys (sym e))
put-at (y ∷ ys) x (suc i) d a l e =
    let below : y.0 < (get_or ys i d).0 = first-below y ys i d a (omega arith) in
    ap (λ (zs : List (ℕ × ℕ)). y ∷ zs) (put-at ys x i d (ascending-rest y.0 (stations ys) a) (omega arith) e)
    ∙ sym (put-behind x y ys (omega (arith, below, e)))

-- a map keeps its stations when one of them moves
pub put-stations : (xs : List (ℕ × ℕ)) (s c : ℕ) → IsAscending xs → has_station xs s ≡ true → map (λ x. x.0) (put (s, c) xs) ≡ map (λ x. x.0) xs
put-stations [] s c a h = cc
put-stations (y ∷ ys) s c a h =
    elim (or_cases (y.0 == s) (has_station ys s) h) [
      | inl e ↦
          let same : s ≡ y.0 = sym (eqb-true y.0 s e) in
          ap stations (put-here (s, c) y ys same) ∙ ap (λ (n : ℕ). n ∷ stations ys) same
      | inr later ↦
          let below : y.0 < s = below-later y.0 (stations ys) s a (list_any-map (λ z. z == s) (λ y. y.0) ys ∙ later) in
          ap stations (put-behind (s, c) y ys below) ∙ ap (λ (ns : List ℕ). y.0 ∷ ns) (put-stations ys s c (ascending-rest y.0 (stations ys) a) later)
    ]

-- the station at a place is not among those before it
pub station-fresh : (xs : List (ℕ × ℕ)) (i s : ℕ) (d : ℕ × ℕ) → IsAscending xs → i < length xs → has_station (take i xs) s ≡ true → (s == (get_or xs i d).0) ≡ false
station-fresh [] i s d a l h = absurd (omega arith)
station-fresh (y ∷ ys) zero s d a l h = cc
station-fresh (y ∷ ys) (suc i) s d a l h =
    elim (or_cases (y.0 == s) (has_station (take i ys) s) h) [
      | inl e ↦
          let same : y.0 ≡ s = eqb-true y.0 s e in
          let below : y.0 < (get_or ys i d).0 = first-below y ys i d a (omega arith) in
          ne_eqb s (get_or ys i d).0 (λ is. omega (arith, same, below, is))
      | inr later ↦ station-fresh ys i s d (ascending-rest y.0 (stations ys) a) (omega arith) later
    ]

-- the stations up to a place, and one more
pub has_station-more : (xs : List (ℕ × ℕ)) (i s : ℕ) (d : ℕ × ℕ) → i < length xs → has_station (take (i + 1) xs) s ≡ (has_station (take i xs) s || ((get_or xs i d).0 == s))
has_station-more xs i s d l =
    ap (λ es. has_station es s) (take_more xs i d l) ∙ list_any-append (λ y. y.0 == s) (take i xs) (get_or xs i d ∷ [])
    ∙ ap (λ b. has_station (take i xs) s || b) (or-false ((get_or xs i d).0 == s))
