-- A binary search among domains that ascend by station.
use Rattle.std.proofs.Common.{◌≡◌, ◌<◌, ◌≤◌, ◌+◌, ◌∷◌, [], ℕ, List, Some, None, true, zero, suc, refl, sym, arith, add-one, lt_trans, map, length, get_or, eqb, nat_cmp, inl, inr}
use Rattle.std.specs.declared.cmp.Ordering.TheVariants.{Less, Greater}
use Rattle.std.specs.Ordering.{ordering_index}
use Rattle.std.specs.List.Sorted.{IsNonDecreasingBy}
use Rattle.std.proofs.lemmas.Bool.{and_parts, cases_lt, eq-eqb, le-ltb, ltb-true, ne_eqb}
use Rattle.std.proofs.lemmas.Cmp.{nat_cmp_total, ranked}
use Rattle.std.proofs.lemmas.List.Recursion.{found_nowhere}
use Rattle.std.proofs.lemmas.List.Sorted.{searchable_from_sorted}
use Rattle.pack_defs.specs.Lists.{is_ascending}
use Rattle.pack_defs.specs.declared.domain.Domain.{Domain}
use Rattle.constraint_files.specs.Domains.{channels_of}

-- Each station is below the next.
rises : (ds : List Domain) (k : ℕ) (d : Domain) → is_ascending (map (λ x. x.station) ds) ≡ true → suc k < length ds
    → (get_or ds k d).station < (get_or ds (suc k) d).station
rises [] k d up h = absurd (omega arith)
rises (x ∷ []) k d up h = absurd (omega arith)
rises (x ∷ y ∷ ds) zero d up h = ltb-true x.station y.station (and_parts _ _ up).0
rises (x ∷ y ∷ ds) (suc k) d up h = rises (y ∷ ds) k d (and_parts _ _ up).1 (omega arith)

-- The first station is below each later one.
first-below : (x : Domain) (ds : List Domain) (k : ℕ) (d : Domain) → is_ascending (map (λ y. y.station) (x ∷ ds)) ≡ true → k < length ds
    → x.station < (get_or ds k d).station
first-below x [] k d up h = absurd (omega arith)
first-below x (y ∷ ds) zero d up h = ltb-true x.station y.station (and_parts _ _ up).0
first-below x (y ∷ ds) (suc k) d up h =
    let parts = and_parts _ _ up in
    lt_trans (ltb-true x.station y.station parts.0) (first-below y ds k d parts.1 (omega arith))

-- The binary search is allowed.
pub searchable : (ds : List Domain) (f : ℕ) → is_ascending (map (λ x. x.station) ds) ≡ true → IsNonDecreasingBy (λ (x : Domain). ordering_index (nat_cmp x.station f)) ds
searchable ds f up =
    searchable_from_sorted nat_cmp_total (λ (x : Domain). x.station) ds f (λ k d low h.
    let r : (get_or ds k d).station < (get_or ds (k + 1) d).station = rw add-one (rises ds k d up (omega arith)) in
    rw (le-ltb (get_or ds (k + 1) d).station (get_or ds k d).station (omega arith), ne_eqb (get_or ds (k + 1) d).station (get_or ds k d).station (λ e. absurd (omega arith))) refl)

-- The search finds the row of the station.
pub found : (ds : List Domain) (i f : ℕ) (d : Domain) → is_ascending (map (λ x. x.station) ds) ≡ true → i < length ds → (get_or ds i d).station ≡ f
    → channels_of ds f ≡ Some (get_or ds i d).channels
found [] i f d up h e = absurd (omega arith)
found (x ∷ ds) zero f d up h e = rw (eq-eqb x.station f e) refl
found (x ∷ []) (suc i) f d up h e = absurd (omega arith)
found (x ∷ y ∷ ds) (suc i) f d up h e =
    let below = first-below x (y ∷ ds) i d up (omega arith) in
    rw (ne_eqb x.station f (λ same. absurd (omega arith))) (found (y ∷ ds) i f d (and_parts _ _ up).1 (omega arith) e)

-- If all before are less and all after greater, the station has no row.
pub missing : (ds : List Domain) (i f : ℕ)
    → ((k : ℕ) (d : Domain) → 0 ≤ k → k < i → nat_cmp (get_or ds k d).station f ≡ Less)
    → ((k : ℕ) (d : Domain) → i ≤ k → k < length ds → nat_cmp (get_or ds k d).station f ≡ Greater)
    → channels_of ds f ≡ None
missing ds i f before after =
    let none : Domain = record { station = 0; channels = [] } in
    found_nowhere (λ xs. channels_of xs f) (λ (x : Domain). eqb x.station f) (λ (x : Domain). Some x.channels) None refl (λ x xs. refl) ds none
    (λ k h. ne_eqb (get_or ds k none).station f (λ same. elim (cases_lt k i) [
      | inl lt ↦ let r : (get_or ds k none).station < f = ranked _ f Less (sym (before k none (omega arith) lt)) in omega arith
      | inr ge ↦ let r : f < (get_or ds k none).station = ranked _ f Greater (sym (after k none ge h)) in omega arith
    ]))
