-- The stations on air, found by the standing at a station's place.
use Rattle.std.proofs.Common.{◌≡◌, ◌∙◌, ℕ, zero, suc, ◌<◌, Bool, nat_lt, true, false, cond, ◌||◌, eqb, List, [], ◌∷◌, length, get_or, refl, ap, subst, arith}
use Rattle.std.proofs.Common.{inl, inr}
use Rattle.std.proofs.lemmas.Bool.{and_from, or_cases, or_left, or_right, lt-ltb, eq-eqb, ne_eqb, both_ways, false_from_ne_true}
use Rattle.std.proofs.lemmas.List.Elements.{Contains-get_or}
use Rattle.pack_defs.proofs.Members.{is_in-from}
use Rattle.auction_core.specs.declared.clock.StationStatus.{StationStatus}
use Rattle.pack_defs.specs.Lists.{is_ascending, is_in}
use Rattle.pack_defs.proofs.Words.{ascending-rest, below-later}
use Rattle.auction_core.specs.Clock.{on_air_by, is_status_on_air, stations_by}

-- A number below all of an ascending list may precede it.
before : (f : ℕ) (xs : List ℕ) → ((y : ℕ) → is_in xs y ≡ true → f < y) → is_ascending xs ≡ true → is_ascending (f ∷ xs) ≡ true
before f [] below a = refl
before f (x ∷ xs) below a = and_from (nat_lt f x) (is_ascending (x ∷ xs)) (lt-ltb f x (below x (or_left (eqb x x) (is_in xs x) (eq-eqb x x refl)))) a

-- The stations that pass a test are among all.
stations_by-in : (p : ℕ → StationStatus → Bool) (fs : List ℕ) (xs : List StationStatus) (y : ℕ) → is_in (stations_by p fs xs) y ≡ true → is_in fs y ≡ true
stations_by-in p [] xs y h = h
stations_by-in p (f ∷ fs) [] y h = cc
stations_by-in p (f ∷ fs) (x ∷ xs) y h =
    (elim (p f x) as (λ b. is_in (cond b (f ∷ stations_by p fs xs) (stations_by p fs xs)) y ≡ true → is_in (f ∷ fs) y ≡ true) [
      | true ↦ λ k. elim (or_cases (eqb f y) (is_in (stations_by p fs xs) y) k) [
        | inl here ↦ or_left (eqb f y) (is_in fs y) here
        | inr there ↦ or_right (eqb f y) (is_in fs y) (stations_by-in p fs xs y there)
      ]
      | false ↦ λ k. or_right (eqb f y) (is_in fs y) (stations_by-in p fs xs y k)
    ]) h

-- They ascend if all do.
stations_by-ascend : (p : ℕ → StationStatus → Bool) (fs : List ℕ) (xs : List StationStatus) → is_ascending fs ≡ true → is_ascending (stations_by p fs xs) ≡ true
stations_by-ascend p [] xs a = refl
stations_by-ascend p (f ∷ fs) [] a = refl
stations_by-ascend p (f ∷ fs) (x ∷ xs) a =
    let rest = stations_by-ascend p fs xs (ascending-rest f fs a) in
    elim (p f x) as (λ b. is_ascending (cond b (f ∷ stations_by p fs xs) (stations_by p fs xs)) ≡ true) [
      | true ↦ before f (stations_by p fs xs) (λ y there. below-later f fs y a (stations_by-in p fs xs y there)) rest
      | false ↦ rest
    ]

-- A station is on air exactly if the standing at its place says so.
pub on_air-at : (fs : List ℕ) (xs : List StationStatus) (i s : ℕ) (d : StationStatus) → is_ascending fs ≡ true → length xs ≡ length fs → i < length fs → get_or fs i 0 ≡ s → is_in (on_air_by fs xs) s ≡ is_status_on_air (get_or xs i d)
on_air-at [] xs i s d a same inside at = absurd (omega arith)
on_air-at (f ∷ fs) [] i s d a same inside at = absurd (omega arith)
on_air-at (f ∷ fs) (x ∷ xs) zero s d a same inside at =
    let none : is_in (on_air_by fs xs) s ≡ false = false_from_ne_true (is_in (on_air_by fs xs) s) (λ there.
    let later = below-later f fs s a (stations_by-in (λ f x. is_status_on_air x) fs xs s there) in omega (arith, later, at)) in
    elim (is_status_on_air x) as (λ b. is_in (cond b (f ∷ on_air_by fs xs) (on_air_by fs xs)) s ≡ b) [
      | true ↦ or_left (eqb f s) (is_in (on_air_by fs xs) s) (eq-eqb f s at)
      | false ↦ none
    ]
on_air-at (f ∷ fs) (x ∷ xs) (suc i) s d a same inside at =
    let rest = on_air-at fs xs i s d (ascending-rest f fs a) (omega arith) (omega arith) at in
    let there : is_in fs s ≡ true = subst (λ z. is_in fs z ≡ true) at (is_in-from fs (get_or fs i 0) (Contains-get_or fs i 0 (omega arith))) in
    let less : f < s = below-later f fs s a there in
    let other : eqb f s ≡ false = ne_eqb f s (λ e. omega (arith, less, e)) in
    elim (is_status_on_air x) as (λ b. is_in (cond b (f ∷ on_air_by fs xs) (on_air_by fs xs)) s ≡ is_status_on_air (get_or xs i d)) [
      | true ↦ ap (λ b. b || is_in (on_air_by fs xs) s) other ∙ rest
      | false ↦ rest
    ]

-- A station that the list lacks is not on air.
pub on_air-none : (fs : List ℕ) (xs : List StationStatus) (s : ℕ) → is_in fs s ≡ false → is_in (on_air_by fs xs) s ≡ false
on_air-none fs xs s none = false_from_ne_true (is_in (on_air_by fs xs) s) (λ there. both_ways (is_in fs s) none (stations_by-in (λ f x. is_status_on_air x) fs xs s there))

-- The stations on air ascend if all do.
pub on_air-ascend : (fs : List ℕ) (xs : List StationStatus) → is_ascending fs ≡ true → is_ascending (on_air_by fs xs) ≡ true
on_air-ascend = stations_by-ascend (λ f x. is_status_on_air x)
