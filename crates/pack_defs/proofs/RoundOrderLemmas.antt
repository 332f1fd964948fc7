-- The order of a round has each station of the scenario once, is by volume where it should be, and depends on no value.
use Rattle.std.proofs.Common.{◌≡◌, ℕ, suc, length, ◌<◌, ◌≤◌, Bool, true, false, not, ◌||◌, cond, eqb, leb, ◌⊎◌, inl, inr, List, [], ◌∷◌, ◌++◌, refl, sym, ap, ap₂, ◌∙◌, subst, arith, Contains, filter, count_by}
use Rattle.std.proofs.lemmas.Bool.{eqb-true, leb-true, leb-false, or_parts, or_cases, or_from, false_from_ne_true, true≢false}
use Rattle.std.proofs.lemmas.List.Sums.{sum_by-cons}
use Rattle.pack_defs.specs.Lists.{is_in, is_ascending}
use Rattle.pack_defs.specs.declared.order.Order.{Order}
use Rattle.pack_defs.specs.declared.order.Order.TheVariants.{ByFacility, ByVolume}
use Rattle.pack_defs.specs.declared.scenario.Scenario.{Scenario}
use Rattle.pack_defs.specs.Scenario.{StationsAscend, facilities, volume_of, with_value}
use Rattle.pack_defs.specs.Prices.{declines, bidders}
use Rattle.pack_defs.specs.ClockRule.{put_by_volume, by_volume, round_order, bidders_in_order}
use Rattle.pack_defs.proofs.Members.{Contains-filter, Contains-from_filter, Contains-cons_cases, Contains-there, is_in-from, is_in-gives}
use Rattle.pack_defs.proofs.Words.{ascending-from, ascending-rest, below-later, swap_or}
use Rattle.pack_defs.proofs.Rounds.{Apart, apart_from_increasing, with_value_agrees, same_volumes}

-- ---- the same stations

put-has : (sc : Scenario) (s z : ℕ) (xs : List ℕ) → is_in (put_by_volume sc s xs) z ≡ is_in (s ∷ xs) z
put-has sc s z [] = refl
put-has sc s z (t ∷ ts) =
    elim (leb (volume_of sc t) (volume_of sc s)) as (λ b. is_in (cond b (s ∷ t ∷ ts) (t ∷ put_by_volume sc s ts)) z ≡ is_in (s ∷ t ∷ ts) z) [
      | true ↦ refl
      | false ↦ ap (λ b. eqb t z || b) (put-has sc s z ts) ∙ swap_or (eqb t z) (eqb s z) (is_in ts z)
    ]

by_volume-has : (sc : Scenario) (z : ℕ) (xs : List ℕ) → is_in (by_volume sc xs) z ≡ is_in xs z
by_volume-has sc z [] = refl
by_volume-has sc z (x ∷ xs) = put-has sc x z (by_volume sc xs) ∙ ap (λ b. eqb x z || b) (by_volume-has sc z xs)

-- The order has exactly the scenario's stations.
pub turns-have : (sc : Scenario) (order : Order) (s : ℕ) → is_in (round_order sc order) s ≡ is_in (facilities sc) s
turns-have sc ByFacility s = refl
turns-have sc ByVolume s = by_volume-has sc s (facilities sc)

put-apart : (sc : Scenario) (s : ℕ) (xs : List ℕ) → is_in xs s ≡ false → Apart xs → Apart (put_by_volume sc s xs)
put-apart sc s [] absent apart = (absent, tt)
put-apart sc s (t ∷ ts) absent apart =
    let parts = or_parts (eqb t s) (is_in ts s) absent in
    elim (leb (volume_of sc t) (volume_of sc s)) as (λ b. Apart (cond b (s ∷ t ∷ ts) (t ∷ put_by_volume sc s ts))) [
      | true ↦ (absent, apart)
      | false ↦ (
        put-has sc s t ts ∙ or_from (eqb s t) (is_in ts t) (false_from_ne_true (eqb s t) (λ same. true≢false (sym (ap (λ z. eqb z s) (sym (eqb-true s t same)) ∙ eqb-self s) ∙ parts.0))) apart.0,
        put-apart sc s ts parts.1 apart.1,
      )
    ]
  where
    eqb-self : (n : ℕ) → eqb n n ≡ true
    eqb-self n = grind arith

by_volume-apart : (sc : Scenario) (xs : List ℕ) → Apart xs → Apart (by_volume sc xs)
by_volume-apart sc [] apart = tt
by_volume-apart sc (x ∷ xs) apart = put-apart sc x (by_volume sc xs) (by_volume-has sc x xs ∙ apart.0) (by_volume-apart sc xs apart.1)

pub turns-apart : (sc : Scenario) (order : Order) → StationsAscend sc → Apart (round_order sc order)
turns-apart sc ByFacility ascend = apart_from_increasing (facilities sc) ascend
turns-apart sc ByVolume ascend = by_volume-apart sc (facilities sc) (apart_from_increasing (facilities sc) ascend)

filter-absent : (p : ℕ → Bool) (xs : List ℕ) (x : ℕ) → is_in xs x ≡ false → is_in (filter p xs) x ≡ false
filter-absent p xs x absent = false_from_ne_true (is_in (filter p xs) x) (λ there. true≢false (sym (is_in-from xs x (Contains-from_filter p xs x (is_in-gives (filter p xs) x there)).0) ∙ absent))

filter-apart : (p : ℕ → Bool) (xs : List ℕ) → Apart xs → Apart (filter p xs)
filter-apart p [] apart = tt
filter-apart p (x ∷ xs) apart =
    elim (p x) as (λ b. Apart (cond b (x ∷ filter p xs) (filter p xs))) [
      | true ↦ (filter-absent p xs x apart.0, filter-apart p xs apart.1)
      | false ↦ filter-apart p xs apart.1
    ]

-- No bidder comes twice in a round.
pub bidders-apart : (sc : Scenario) (order : Order) → StationsAscend sc → Apart (bidders_in_order sc order)
bidders-apart sc order ascend = filter-apart (λ s. not (declines sc s 0)) (round_order sc order) (turns-apart sc order ascend)

-- Each bidder is in the order.
pub bidder-comes : (sc : Scenario) (order : Order) (s : ℕ) → is_in (bidders sc) s ≡ true → is_in (bidders_in_order sc order) s ≡ true
bidder-comes sc order s there =
    let (known, bids) = Contains-from_filter (λ t. not (declines sc t 0)) (facilities sc) s (is_in-gives (bidders sc) s there) in
    is_in-from (bidders_in_order sc order) s
    (Contains-filter (λ t. not (declines sc t 0)) (round_order sc order) s (is_in-gives (round_order sc order) s (turns-have sc order s ∙ is_in-from (facilities sc) s known)) bids)

-- ---- the same number of times

put-counts : (sc : Scenario) (s : ℕ) (f : ℕ → Bool) (xs : List ℕ) → count_by f (put_by_volume sc s xs) ≡ count_by f (s ∷ xs)
put-counts sc s f [] = refl
put-counts sc s f (t ∷ ts) =
    elim (leb (volume_of sc t) (volume_of sc s)) as (λ b. count_by f (cond b (s ∷ t ∷ ts) (t ∷ put_by_volume sc s ts)) ≡ count_by f (s ∷ t ∷ ts)) [
      | true ↦ refl
      | false ↦ omega (arith, put-counts sc s f ts, sum_by-cons (λ x. cond (f x) 1 0) t (put_by_volume sc s ts), sum_by-cons (λ x. cond (f x) 1 0) s (t ∷ ts), sum_by-cons (λ x. cond (f x) 1 0) t ts, sum_by-cons (λ x. cond (f x) 1 0) s ts)
    ]

by_volume-counts : (sc : Scenario) (f : ℕ → Bool) (xs : List ℕ) → count_by f (by_volume sc xs) ≡ count_by f xs
by_volume-counts sc f [] = refl
by_volume-counts sc f (x ∷ xs) =
    omega (arith, put-counts sc x f (by_volume sc xs), by_volume-counts sc f xs, sum_by-cons (λ z. cond (f z) 1 0) x (by_volume sc xs), sum_by-cons (λ z. cond (f z) 1 0) x xs)

pub turns-count : (sc : Scenario) (order : Order) (s : ℕ) → count_by (λ t. eqb t s) (round_order sc order) ≡ count_by (λ t. eqb t s) (facilities sc)
turns-count sc ByFacility s = refl
turns-count sc ByVolume s = by_volume-counts sc (λ t. eqb t s) (facilities sc)

-- ---- by volume

-- The first station has a greater volume, or the same volume and a lesser facility number.
abbrev pub Precedes : Scenario → ℕ → ℕ → Type 0
Precedes sc s t = (volume_of sc t < volume_of sc s) ⊎ ((volume_of sc t ≡ volume_of sc s) × (s < t))

-- Each station precedes those behind it.
abbrev InTurn : Scenario → List ℕ → Type 0
InTurn sc [] = Unit {0}
InTurn sc (x ∷ xs) = ((y : ℕ) → Contains xs y → Precedes sc x y) × InTurn sc xs

no-more : (sc : Scenario) (s t : ℕ) → Precedes sc s t → volume_of sc t ≤ volume_of sc s
no-more sc s t h = elim h [ inl less ↦ omega (arith, less) | inr same ↦ omega (arith, same.0) ]

at-most : (sc : Scenario) (s t : ℕ) → volume_of sc t ≤ volume_of sc s → s < t → Precedes sc s t
at-most sc s t most less =
    elim (cases_less (volume_of sc t) (volume_of sc s)) [ inl l ↦ inl l | inr n ↦ inr (omega (arith, most, n), less) ]
  where
    cases_less : (a b : ℕ) → (a < b) ⊎ (b ≤ a)
    cases_less a b = (elim (leb b a) as (λ c. leb b a ≡ c → (a < b) ⊎ (b ≤ a)) [ true ↦ λ e. inr (leb-true b a e) | false ↦ λ e. inl (leb-false b a e) ]) refl

put-in_turn : (sc : Scenario) (s : ℕ) (xs : List ℕ) → InTurn sc xs → ((y : ℕ) → Contains xs y → s < y) → InTurn sc (put_by_volume sc s xs)
put-in_turn sc s [] h above = (λ y c. absurd (omega (arith, c.1)), tt)
put-in_turn sc s (t ∷ ts) h above =
    (elim (leb (volume_of sc t) (volume_of sc s)) as (λ b. leb (volume_of sc t) (volume_of sc s) ≡ b → InTurn sc (cond b (s ∷ t ∷ ts) (t ∷ put_by_volume sc s ts))) [
      | true ↦ λ e.
          let most = leb-true (volume_of sc t) (volume_of sc s) e in (
            λ y c. elim (Contains-cons_cases t y ts c) [
              | inl is ↦ at-most sc s y (subst (λ z. volume_of sc z ≤ volume_of sc s) is most) (above y c)
              | inr later ↦ let less = no-more sc t y (h.0 y later) in at-most sc s y (omega (arith, most, less)) (above y c)
            ],
            h,
          )
      | false ↦ λ e.
          let less : volume_of sc s < volume_of sc t = leb-false (volume_of sc t) (volume_of sc s) e in (
            λ y c. elim (or_cases (eqb s y) (is_in ts y) (sym (put-has sc s y ts) ∙ is_in-from (put_by_volume sc s ts) y c)) [
              | inl is ↦ inl (subst (λ z. volume_of sc z < volume_of sc t) (eqb-true s y is) less)
              | inr later ↦ h.0 y (is_in-gives ts y later)
            ],
            put-in_turn sc s ts h.1 (λ y c. above y (Contains-there t y ts c)),
          )
    ]) refl

by_volume-in_turn : (sc : Scenario) (xs : List ℕ) → is_ascending xs ≡ true → InTurn sc (by_volume sc xs)
by_volume-in_turn sc [] h = tt
by_volume-in_turn sc (x ∷ xs) h =
    put-in_turn sc x (by_volume sc xs) (by_volume-in_turn sc xs (ascending-rest x xs h)) (λ y c. below-later x xs y h (sym (by_volume-has sc y xs) ∙ is_in-from (by_volume sc xs) y c))

behind : (sc : Scenario) (first then all : List ℕ) (s t : ℕ) → InTurn sc all → all ≡ first ++ s ∷ then → Contains then t → Precedes sc s t
behind sc [] then all s t h is c = (subst (InTurn sc) is h).0 t c
behind sc (f ∷ first) then all s t h is c = behind sc first then (first ++ s ∷ then) s t (subst (InTurn sc) is h).1 refl c

-- A station that comes before another has a greater volume, or the same volume and a lesser facility number.
pub volume-first : (sc : Scenario) (first then : List ℕ) (s t : ℕ) → StationsAscend sc → round_order sc ByVolume ≡ first ++ s ∷ then → Contains then t → Precedes sc s t
volume-first sc first then s t ascend is c =
    behind sc first then (round_order sc ByVolume) s t (by_volume-in_turn sc (facilities sc) (ascending-from (facilities sc) ascend)) is c

-- ---- no value matters

same-put : (A B : Scenario) (s : ℕ) (xs : List ℕ) → ((t : ℕ) → volume_of A t ≡ volume_of B t) → put_by_volume A s xs ≡ put_by_volume B s xs
same-put A B s [] same = refl
same-put A B s (t ∷ ts) same =
    ap₂ (λ v w. cond (leb v w) (s ∷ t ∷ ts) (t ∷ put_by_volume A s ts)) (same t) (same s)
    ∙ ap (λ xs. cond (leb (volume_of B t) (volume_of B s)) (s ∷ t ∷ ts) (t ∷ xs)) (same-put A B s ts same)

same-by_volume : (A B : Scenario) (xs : List ℕ) → ((t : ℕ) → volume_of A t ≡ volume_of B t) → by_volume A xs ≡ by_volume B xs
same-by_volume A B [] same = refl
same-by_volume A B (x ∷ xs) same = ap (put_by_volume A x) (same-by_volume A B xs same) ∙ same-put A B x (by_volume B xs) same

pub same-turns : (sc : Scenario) (order : Order) (s v : ℕ) → round_order sc order ≡ round_order (with_value sc s v) order
same-turns sc ByFacility s v = (with_value_agrees sc s v).same_facilities
same-turns sc ByVolume s v =
    same-by_volume sc (with_value sc s v) (facilities sc) (λ t. sym (same_volumes s v t sc.stations))
    ∙ ap (by_volume (with_value sc s v)) (with_value_agrees sc s v).same_facilities

-- ---- the same length

put-length : (sc : Scenario) (s : ℕ) (xs : List ℕ) → length (put_by_volume sc s xs) ≡ suc (length xs)
put-length sc s [] = refl
put-length sc s (t ∷ ts) =
    elim (leb (volume_of sc t) (volume_of sc s)) as (λ b. length (cond b (s ∷ t ∷ ts) (t ∷ put_by_volume sc s ts)) ≡ suc (suc (length ts))) [
      | true ↦ refl
      | false ↦ ap suc (put-length sc s ts)
    ]

by_volume-length : (sc : Scenario) (xs : List ℕ) → length (by_volume sc xs) ≡ length xs
by_volume-length sc [] = refl
by_volume-length sc (x ∷ xs) = put-length sc x (by_volume sc xs) ∙ ap suc (by_volume-length sc xs)

pub turns-length : (sc : Scenario) (order : Order) → length (round_order sc order) ≡ length (facilities sc)
turns-length sc ByFacility = refl
turns-length sc ByVolume = by_volume-length sc (facilities sc)
