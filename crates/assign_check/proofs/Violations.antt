-- For `check`: the first violated pair of the book is found by the pairs from each station of the map.
use Rattle.std.proofs.Common.{◌≡◌, ℕ, zero, suc, ◌+◌, ◌<◌, ◌≤◌, Bool, true, false, cond, ◌==◌, ◌&&◌, ◌||◌, List, [], ◌∷◌, map, filter, take, length, get_or, Some, None, find, nat_eq, inl, inr, Contains, refl, sym, subst, ap, ◌∙◌, arith, eqb-true, eq-eqb}
use Rattle.std.specs.List.{list_any}
use Rattle.std.specs.List.Sorted.{IsNonDecreasingBy}
use Rattle.std.specs.Option.{option_eq}
use Rattle.std.proofs.lemmas.Bool.{and_parts, or_cases, or_parts, or_from, both_ways, cases_Bool, cond-true, cond-false, false_from_ne_true}
use Rattle.std.proofs.lemmas.List.{take_more, take_all}
use Rattle.std.proofs.lemmas.List.Folds.{list_any-append}
use Rattle.pack_defs.specs.declared.pair.Pair.{Pair}
use Rattle.pack_defs.specs.ChannelMap.{IsAscending, channel_of}
use Rattle.pack_defs.specs.Lists.{has_entry, has_station}
use Rattle.pack_defs.proofs.Members.{Contains-here, Contains-there, Contains-filter, Contains-from_filter, list_any-from}
use Rattle.pack_defs.proofs.Words.{below-later, ascending-rest, list_any-from_each, list_any-map, station-in, eq_swap}
use Rattle.assign_check.specs.Fault.{is_violated}
use Rattle.assign_check.proofs.Faultless.{found-none, none-found}
use Rattle.assign_check.proofs.Finds.{stands-exactly, stands-only}

-- the pair is on this entry's channel, and its other entry is in the map
abbrev pub is_violated_from : List (ℕ × ℕ) → ℕ × ℕ → Pair → Bool
is_violated_from entries own p = (p.a == own.1) && has_entry entries (p.g, p.b)

-- an entry's station has no other channel
pub own-channel : (entries : List (ℕ × ℕ)) (own : ℕ × ℕ) (c : ℕ) → IsAscending entries → has_entry entries own ≡ true → has_entry entries (own.0, c) ≡ (c == own.1)
own-channel entries own c a h =
    let known : channel_of own.0 entries ≡ Some own.1 = stands-only own.0 own.1 entries a h in
    sym (stands-exactly own.0 c entries a) ∙ ap (λ o. option_eq nat_eq o (Some c)) known ∙ eq_swap own.1 c

-- hence a pair from the entry's station is violated
pub from_own : (entries : List (ℕ × ℕ)) (own : ℕ × ℕ) (p : Pair) → IsAscending entries → has_entry entries own ≡ true → p.f ≡ own.0 → is_violated_from entries own p ≡ is_violated entries p
from_own entries own p a h e =
    ap (λ b. b && has_entry entries (p.g, p.b)) (sym (own-channel entries own p.a a h) ∙ ap (λ (f : ℕ). has_entry entries (f, p.a)) (sym e))

find-agrees : (keep t u : Pair → Bool) (ps : List Pair) → ((p : Pair) → keep p ≡ true → t p ≡ u p) → find t (filter keep ps) ≡ find u (filter keep ps)
find-agrees keep t u [] h = refl
find-agrees keep t u (p ∷ ps) h =
    (elim (keep p) as (λ b. keep p ≡ b → find t (cond b (p ∷ filter keep ps) (filter keep ps)) ≡ find u (cond b (p ∷ filter keep ps) (filter keep ps))) [
      | true ↦ λ e. ap (λ b. cond b (Some p) (find t (filter keep ps))) (h p e) ∙ ap (λ o. cond (u p) (Some p) o) (find-agrees keep t u ps h)
      | false ↦ λ e. find-agrees keep t u ps h
    ]) refl

pub violated-from : (entries : List (ℕ × ℕ)) (own : ℕ × ℕ) (pairs : List Pair) → IsAscending entries → has_entry entries own ≡ true → find (is_violated_from entries own) (filter (λ p. p.f == own.0) pairs) ≡ find (is_violated entries) (filter (λ p. p.f == own.0) pairs)
violated-from entries own pairs a h =
    find-agrees (λ p. p.f == own.0) (is_violated_from entries own) (is_violated entries) pairs (λ p e. from_own entries own p a h (eqb-true p.f own.0 e))

-- ---- the first pair of all is the first pair of the first station that has one

find-gives : (t : Pair → Bool) (ps : List Pair) (q : Pair) → find t ps ≡ Some q → Contains ps q
find-gives t [] q e = cc
find-gives t (p ∷ ps) q e =
    (elim (t p) as (λ b. cond b (Some p) (find t ps) ≡ Some q → Contains (p ∷ ps) q) [
      | true ↦ λ (is : Some p ≡ Some q). let same : p ≡ q = cc in subst (λ z. Contains (p ∷ ps) z) same (Contains-here p ps)
      | false ↦ λ later. Contains-there p q ps (find-gives t ps q later)
    ]) e

rises-rest : (p : Pair) (ps : List Pair) → IsNonDecreasingBy (λ x. x.f) (p ∷ ps) → IsNonDecreasingBy (λ x. x.f) ps
rises-rest p ps up i j d l u = up (suc i) (suc j) d (omega arith) (omega arith)

rises-first : (p q : Pair) (ps : List Pair) → IsNonDecreasingBy (λ x. x.f) (p ∷ ps) → Contains ps q → p.f ≤ q.f
rises-first p q ps up (k, l, is) =
    subst (λ (z : Pair). p.f ≤ z.f) is (up 0 (suc k) q (omega arith) (omega arith))

pub first-of_all : (t : Pair → Bool) (s : ℕ) (ps : List Pair) (q : Pair) → IsNonDecreasingBy (λ p. p.f) ps → ((p : Pair) → Contains ps p → t p ≡ true → s ≤ p.f) → find t (filter (λ p. p.f == s) ps) ≡ Some q → find t ps ≡ Some q
first-of_all t s [] q up low e = cc
first-of_all t s (p ∷ ps) q up low e =
    elim (cases_Bool (t p)) [
      | inl passes ↦ elim (cases_Bool (p.f == s)) [
        | inl own ↦
            let kept : find t (p ∷ filter (λ x. x.f == s) ps) ≡ Some q = rw (cond-true (p.f == s) (p ∷ filter (λ x. x.f == s) ps) (filter (λ x. x.f == s) ps) own) at e in
            cond-true (t p) (Some p) (find t ps) passes ∙ sym (cond-true (t p) (Some p) (find t (filter (λ x. x.f == s) ps)) passes) ∙ kept
        | inr other ↦
            let dropped : find t (filter (λ x. x.f == s) ps) ≡ Some q = rw (cond-false (p.f == s) (p ∷ filter (λ x. x.f == s) ps) (filter (λ x. x.f == s) ps) other) at e in
            let (there, is) = Contains-from_filter (λ x. x.f == s) ps q (find-gives t (filter (λ x. x.f == s) ps) q dropped) in
            let same : q.f ≡ s = eqb-true q.f s is in
            let rise : p.f ≤ q.f = rises-first p q ps up there in
            let least : s ≤ p.f = low p (Contains-here p ps) passes in
            let equal : p.f ≡ s = omega (arith, same, rise, least) in
            absurd (both_ways (p.f == s) other (eq-eqb p.f s equal))
      ]
      | inr fails ↦
          let rest : find t (filter (λ x. x.f == s) ps) ≡ Some q = elim (cases_Bool (p.f == s)) [
            | inl own ↦
                let kept : find t (p ∷ filter (λ x. x.f == s) ps) ≡ Some q = rw (cond-true (p.f == s) (p ∷ filter (λ x. x.f == s) ps) (filter (λ x. x.f == s) ps) own) at e in
                sym (cond-false (t p) (Some p) (find t (filter (λ x. x.f == s) ps)) fails) ∙ kept
            | inr other ↦ rw (cond-false (p.f == s) (p ∷ filter (λ x. x.f == s) ps) (filter (λ x. x.f == s) ps) other) at e
          ] in
          cond-false (t p) (Some p) (find t ps) fails ∙ first-of_all t s ps q (rises-rest p ps up) (λ x l h. low x (Contains-there p x ps l) h) rest
    ]

-- ---- station by station of the map

-- no violated pair is from one of the map's first stations
pub record NoneFrom (entries : List (ℕ × ℕ)) (pairs : List Pair) (i : ℕ) : Type 0 where
  pub none : (p : Pair) → Contains pairs p → is_violated entries p ≡ true → has_station (take i entries) p.f ≡ false

pub none-start : (entries : List (ℕ × ℕ)) (pairs : List Pair) → NoneFrom entries pairs 0
none-start entries pairs = record { none = λ p l h. refl }

pub none-more : (entries : List (ℕ × ℕ)) (pairs : List Pair) (i : ℕ) → i < length entries → NoneFrom entries pairs i → find (is_violated entries) (filter (λ p. p.f == (get_or entries i (0, 0)).0) pairs) ≡ None → NoneFrom entries pairs (i + 1)
none-more entries pairs i l n e = record {
  none = λ p there h.
      let x = get_or entries i (0, 0) in
      let no : list_any (is_violated entries) (filter (λ q. q.f == x.0) pairs) ≡ false = found-none (is_violated entries) (filter (λ q. q.f == x.0) pairs) e in
      let other : (x.0 == p.f) ≡ false = false_from_ne_true (x.0 == p.f) (λ same.
      both_ways (list_any (is_violated entries) (filter (λ q. q.f == x.0) pairs)) no
      (list_any-from (is_violated entries) (filter (λ q. q.f == x.0) pairs) p (Contains-filter (λ q. q.f == x.0) pairs p there (eq_swap p.f x.0 ∙ same)) h)) in
      ap (λ es. has_station es p.f) (take_more entries i (0, 0) l) ∙ list_any-append (λ y. y.0 == p.f) (take i entries) (x ∷ [])
      ∙ or_from (has_station (take i entries) p.f) ((x.0 == p.f) || false) (n.none p there h) (or_from (x.0 == p.f) false other refl);
}

-- an entry's station is one of the map
pub station-has : (entries : List (ℕ × ℕ)) (x : ℕ × ℕ) → has_entry entries x ≡ true → has_station entries x.0 ≡ true
station-has entries x h = sym (list_any-map (λ z. z == x.0) (λ (y : ℕ × ℕ). y.0) entries) ∙ station-in entries x h

-- a violated pair is from a station of the map
violated-station : (entries : List (ℕ × ℕ)) (p : Pair) → is_violated entries p ≡ true → has_station entries p.f ≡ true
violated-station entries p h =
    station-has entries (p.f, p.a) (and_parts (has_entry entries (p.f, p.a)) (has_entry entries (p.g, p.b)) h).0

-- a station that is not among the first is the next or a later one
next-or_later : (entries : List (ℕ × ℕ)) (i f : ℕ) → IsAscending entries → has_station (take i entries) f ≡ false → has_station entries f ≡ true → (get_or entries i (0, 0)).0 ≤ f
next-or_later [] i f a n h = cc
next-or_later (x ∷ xs) zero f a n h =
    elim (or_cases (x.0 == f) (has_station xs f) h) [
      | inl e ↦ let same : x.0 ≡ f = eqb-true x.0 f e in omega arith
      | inr later ↦ let less : x.0 < f = below-later x.0 (map (λ y. y.0) xs) f a (list_any-map (λ z. z == f) (λ y. y.0) xs ∙ later) in omega arith
    ]
next-or_later (x ∷ xs) (suc i) f a n h =
    let parts = or_parts (x.0 == f) (has_station (take i xs) f) n in
    next-or_later xs i f (ascending-rest x.0 (map (λ y. y.0) xs) a) parts.1 (elim (or_cases (x.0 == f) (has_station xs f) h) [
      | inl e ↦ absurd (both_ways (x.0 == f) parts.0 e)
      | inr later ↦ later
    ])

pub violated-first : (entries : List (ℕ × ℕ)) (pairs : List Pair) (i : ℕ) (q : Pair) → IsAscending entries → IsNonDecreasingBy (λ p. p.f) pairs → NoneFrom entries pairs i → find (is_violated entries) (filter (λ p. p.f == (get_or entries i (0, 0)).0) pairs) ≡ Some q → find (is_violated entries) pairs ≡ Some q
violated-first entries pairs i q a up n e =
    first-of_all (is_violated entries) (get_or entries i (0, 0)).0 pairs q up
    (λ p there h. next-or_later entries i p.f a (n.none p there h) (violated-station entries p h)) e

pub none-violated : (entries : List (ℕ × ℕ)) (pairs : List Pair) (i : ℕ) → length entries ≤ i → NoneFrom entries pairs i → find (is_violated entries) pairs ≡ None
none-violated entries pairs i l n =
    none-found (is_violated entries) pairs (list_any-from_each (is_violated entries) pairs (λ p there.
    false_from_ne_true (is_violated entries p) (λ h.
    both_ways (has_station entries p.f) (ap (λ es. has_station es p.f) (sym (take_all i entries l)) ∙ n.none p there h) (violated-station entries p h))))
