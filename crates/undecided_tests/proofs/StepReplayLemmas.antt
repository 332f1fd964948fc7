-- The first steps of a backed record, one after another: the clock, the map and the places of the last fits after
-- each.
use Rattle.std.proofs.Common.{◌≡◌, ◌∙◌, ℕ, zero, suc, ◌+◌, ◌-◌, ◌<◌, ◌≤◌, Bool, true, false, ◌==◌, if◌then◌else◌, List, [], ◌∷◌, ◌++◌, map, take, length, get_or, set, replicate, Option, Some, None, is_some, unwrap_or, refl, sym, ap, subst, arith, add-one, ⊎_elim}
use Rattle.std.specs.Option.{option_map_or}
use Rattle.std.proofs.lemmas.Bool.{cases_eq, cond-false, cond-true, eq-eqb, eqb-true, ne_eqb}
use Rattle.std.proofs.lemmas.List.{get_or-set_other, get_or-set_same, length-map, length-set, take_more}
use Rattle.std.proofs.lemmas.Option.{slice_get-get_or, slice_get_past}
use Rattle.std.specs.List.Sorted.{IsStrictlyIncreasing}
use Rattle.pack_defs.specs.Book.{BookView, IsInOrder}
use Rattle.pack_defs.specs.ChannelMap.{IsAscending, overlaid}
use Rattle.pack_defs.specs.ClockRule.{is_on_air, opening_state}
use Rattle.pack_defs.specs.Lists.{has_station, is_in}
use Rattle.pack_defs.specs.Scenario.{IsWithinLimits, StationsAscend, facilities}
use Rattle.pack_defs.specs.declared.scenario.Scenario.{Scenario}
use Rattle.pack_defs.specs.declared.station.Station.{Station}
use Rattle.pack_defs.proofs.MapLemmas.{overlaid-ascending}
use Rattle.auction_core.specs.AirMap.{AirMapView}
use Rattle.auction_core.specs.Backed.{IsBacked, IsEnded, IsStepShown, after_start, after_steps}
use Rattle.auction_core.specs.Clock.{ClockView, IsClockOf, answered_clock, is_status_on_air}
use Rattle.auction_core.specs.ClockRun.{GivesWithin, map_after}
use Rattle.auction_core.specs.State.{CoreState, delta_of, fit_of, last_fit, settled, shows_room, start_delta, test_of}
use Rattle.auction_core.specs.declared.clock.StationStatus.{StationStatus}
use Rattle.auction_core.specs.declared.clock.StationStatus.TheVariants.{Active}
use Rattle.auction_core.specs.declared.record.Ending.{Ending}
use Rattle.auction_core.specs.declared.record.Ending.TheVariants.{Done, StartRefuted, StartUndecided}
use Rattle.auction_core.specs.declared.record.Record.{Record}
use Rattle.auction_core.specs.declared.record.Step.{Step}
use Rattle.auction_core.proofs.ClockLemmas.{is_on_air_at}
use Rattle.auction_core.proofs.KeptTestHistory.{step-within, one-place}
use Rattle.auction_core.proofs.Sets.{last_fit-push}
use Rattle.auction_core.proofs.Steps.{after_steps-steps}
use Rattle.result_text.proofs.ReplayLemmas.{auction-of, next-clock}
use Rattle.result_text.proofs.StepLemmas.{IsNext, backed-next, carried-through}
use Rattle.transcript_text.proofs.Writes.{shown-at}
use Rattle.undecided_tests.specs.StepReplay.{IsStateAfter, fit_named}

-- A record that has a step is of a finished auction.
pub some-step-done : (sc : Scenario) (book : BookView) (rec : Record) → 1 ≤ length rec.steps → IsBacked sc book rec.order rec → rec.ending ≡ Done
some-step-done sc book rec some backed = go rec.ending backed.rest
  where
    go : (e : Ending) → IsEnded sc book rec.order rec e → e ≡ Done
    go Done h = refl
    go StartRefuted h = let none = ap length h.steps in absurd (omega (arith, some, none))
    go StartUndecided h = let none = ap length h.steps in absurd (omega (arith, some, none))

-- ---- the step that a number names

pub named-some : (steps : List Step) (n : ℕ) (x : Step) → (n ≡ 0 → ⊥) → n - 1 < length steps → x ≡ get_or steps (n - 1) x → fit_named steps n ≡ unwrap_or (fit_of x.shown) []
named-some steps zero x some inside is = absurd (some refl)
named-some steps (suc i) x some inside is =
    let behind : suc i - 1 ≡ i = omega arith in
    ap (λ o. option_map_or (λ (y : Step). unwrap_or (fit_of y.shown) []) o []) (slice_get-get_or steps i x (omega (arith, inside)) ∙ ap Some (sym (is ∙ ap (λ k. get_or steps k x) behind)))

pub named-none : (steps : List Step) (n : ℕ) → (n ≡ 0 → ⊥) → length steps ≤ n - 1 → fit_named steps n ≡ []
named-none steps zero some past = absurd (some refl)
named-none steps (suc i) some past =
    ap (λ o. option_map_or (λ (y : Step). unwrap_or (fit_of y.shown) []) o []) (slice_get_past steps i (omega (arith, past)))

-- ---- the last fits

-- Whether `fits` has, for each station's place, the number of the step of its last fit among the first k; 0 before
-- its first.
pub record AreFits (stations : List ℕ) (steps : List Step) (k : ℕ) (fits : List ℕ) : Type 0 where
  pub long : length fits ≡ length stations
  pub each : (i : ℕ) → i < length stations → fit_named steps (get_or fits i 0) ≡ last_fit (take k steps) (get_or stations i 0) []

-- The places of the last fits after the step with this number.
abbrev pub fits_with : List ℕ → ℕ → Bool → ℕ → List ℕ
fits_with fits place fit number = if fit then set fits place number else fits

-- A list of zeros.
abbrev zeros : ℕ → List ℕ
zeros n = replicate n 0

length-zeros : (n : ℕ) → length (zeros n) ≡ n
length-zeros zero = refl
length-zeros (suc n) = ap suc (length-zeros n)

zero-at : (n i : ℕ) → get_or (zeros n) i 0 ≡ 0
zero-at zero i = refl
zero-at (suc n) zero = refl
zero-at (suc n) (suc i) = zero-at n i

pub first-fits : (stations : List ℕ) (steps : List Step) (n : ℕ) → n ≡ length stations → AreFits stations steps 0 (replicate n 0)
first-fits stations steps n same = record {
  long = length-zeros n ∙ same;
  each = λ i inside. ap (fit_named steps) (zero-at n i);
}

-- The entries of the step that follows the first k.
named-here : (steps : List Step) (k : ℕ) (x : Step) → k < length steps → x ≡ get_or steps k x → fit_named steps (k + 1) ≡ unwrap_or (fit_of x.shown) []
named-here steps k x inside is =
    ap (fit_named steps) (add-one k) ∙ ap (λ o. option_map_or (λ (y : Step). unwrap_or (fit_of y.shown) []) o []) (slice_get-get_or steps k x inside ∙ ap Some (sym is))

-- The entries named at each place after the step.
named-next : (stations : List ℕ) (steps : List Step) (fits : List ℕ) (k i j : ℕ) (x : Step) → IsStrictlyIncreasing stations → k < length steps → x ≡ get_or steps k x → i < length stations → get_or stations i 0 ≡ x.station → AreFits stations steps k fits → j < length stations →
    fit_named steps (get_or (fits_with fits i (is_some (fit_of x.shown)) (k + 1)) j 0) ≡ (if x.station == get_or stations j 0 then unwrap_or (fit_of x.shown) (last_fit (take k steps) (get_or stations j 0) []) else last_fit (take k steps) (get_or stations j 0) [])
named-next stations steps fits k i j x up inside is within at are there = go (fit_of x.shown) refl
  where
    go : (o : Option (List (ℕ × ℕ))) → fit_of x.shown ≡ o → fit_named steps (get_or (fits_with fits i (is_some o) (k + 1)) j 0) ≡ (if x.station == get_or stations j 0 then unwrap_or o (last_fit (take k steps) (get_or stations j 0) []) else last_fit (take k steps) (get_or stations j 0) [])
    go None e = are.each j there ∙ sym (elim (x.station == get_or stations j 0) as (λ b. (if b then last_fit (take k steps) (get_or stations j 0) [] else last_fit (take k steps) (get_or stations j 0) []) ≡ last_fit (take k steps) (get_or stations j 0) []) [ true ↦ refl | false ↦ refl ])
    go (Some delta) e =
        let long = are.long in
        ⊎_elim
        (λ (same : j ≡ i).
        ap (λ n. fit_named steps (get_or (set fits i (k + 1)) n 0)) same
        ∙ (ap (fit_named steps) (get_or-set_same fits i (k + 1) 0 (omega (arith, long, within)))
        ∙ (named-here steps k x inside is
        ∙ (ap (λ o. unwrap_or o []) e
        ∙ sym (cond-true (x.station == get_or stations j 0) delta (last_fit (take k steps) (get_or stations j 0) []) (eq-eqb x.station (get_or stations j 0) (sym (ap (λ n. get_or stations n 0) same ∙ at))))))))
        (λ (other : j ≡ i → ⊥).
        ap (fit_named steps) (get_or-set_other fits i j (k + 1) 0 other)
        ∙ (are.each j there
        ∙ sym (cond-false (x.station == get_or stations j 0) delta (last_fit (take k steps) (get_or stations j 0) []) (ne_eqb x.station (get_or stations j 0) (λ own. other (one-place stations j i up there within (sym (at ∙ own))))))))
        (cases_eq j i)

-- The first steps, and one more.
take-next : (steps : List Step) (k : ℕ) (x : Step) → k < length steps → x ≡ get_or steps k x → take (k + 1) steps ≡ take k steps ++ x ∷ []
take-next steps k x inside is = take_more steps k x inside ∙ ap (λ y. take k steps ++ y ∷ []) (sym is)

pub fits-next : (stations : List ℕ) (steps : List Step) (fits : List ℕ) (k i : ℕ) (x : Step) → IsStrictlyIncreasing stations → k < length steps → x ≡ get_or steps k x → i < length stations → get_or stations i 0 ≡ x.station → AreFits stations steps k fits →
    AreFits stations steps (k + 1) (fits_with fits i (is_some (fit_of x.shown)) (k + 1))
fits-next stations steps fits k i x up inside is within at are = record {
  long = (elim (is_some (fit_of x.shown)) as (λ b. length (fits_with fits i b (k + 1)) ≡ length fits) [ true ↦ length-set fits i (k + 1) | false ↦ refl ]) ∙ are.long;
  each = λ j there.
      named-next stations steps fits k i j x up inside is within at are there
      ∙ (sym (last_fit-push (take k steps) x (get_or stations j 0) []) ∙ ap (λ xs. last_fit xs (get_or stations j 0) []) (sym (take-next steps k x inside is)));
}

-- At the step's own place, the entries named are those that it gives the map.
pub named-own : (stations : List ℕ) (steps : List Step) (fits : List ℕ) (k i : ℕ) (x : Step) → IsStrictlyIncreasing stations → k < length steps → x ≡ get_or steps k x → i < length stations → get_or stations i 0 ≡ x.station → AreFits stations steps k fits →
    fit_named steps (get_or (fits_with fits i (is_some (fit_of x.shown)) (k + 1)) i 0) ≡ delta_of (take k steps) x.station x.shown
named-own stations steps fits k i x up inside is within at are =
    named-next stations steps fits k i i x up inside is within at are within
    ∙ (ap (λ s. if x.station == s then unwrap_or (fit_of x.shown) (last_fit (take k steps) s []) else last_fit (take k steps) s []) at
    ∙ cond-true (x.station == x.station) (delta_of (take k steps) x.station x.shown) (last_fit (take k steps) x.station []) (eq-eqb x.station x.station refl))

-- ---- the loop invariant

-- The state after the first k steps.
abbrev pub state_at : Scenario → Record → List Step → ℕ → CoreState
state_at sc rec steps k = after_steps sc (after_start sc rec.order rec.start) (take k steps)

-- The invariant of the loop: the clock, the map and the places of the last fits are those after the first k steps.
-- The map has a place for each station, and the steps give channels to the scenario's stations only.
pub record IsFollowing (sc : Scenario) (rec : Record) (steps : List Step) (k : ℕ) (clock : ClockView) (map : AirMapView) (fits : List ℕ) : Type 0 where
  pub left : IsStateAfter sc (state_at sc rec steps k) clock map
  pub stations : map.stations ≡ facilities sc
  pub fits_are : AreFits (facilities sc) steps k fits
  pub within : (f : ℕ) → GivesWithin sc (last_fit (take k steps) f [])

pub first-following : (sc : Scenario) (rec : Record) (steps : List Step) (clock : ClockView) (map : AirMapView) (fits : List ℕ) (n : ℕ) → IsClockOf sc (opening_state sc) clock → map ≡ record { stations = facilities sc; entries = overlaid [] (start_delta rec.start) } → n ≡ length sc.stations → fits ≡ replicate n 0 → IsFollowing sc rec steps 0 clock map fits
first-following sc rec steps clock map fits n clock_is map_is count zeros = record {
  left = record {
    clock_is = clock_is;
    entries = ap (λ (m : AirMapView). m.entries) map_is;
    rises = subst (λ (m : AirMapView). IsAscending m.entries) (sym map_is) (overlaid-ascending [] (start_delta rec.start) refl);
  };
  stations = ap (λ (m : AirMapView). m.stations) map_is;
  fits_are = subst (AreFits (facilities sc) steps 0) (sym zeros) (first-fits (facilities sc) steps n (count ∙ sym (length-map sc.stations (λ (x : Station). x.id))));
  within = λ f s there. cc;
}

-- The loop's step, of the station at place i.
module _ (sc : Scenario) (book : BookView) (rec : Record) (steps : List Step) (k i : ℕ) (x : Step) (clock : ClockView) (map : AirMapView) (fits : List ℕ) (ascend : StationsAscend sc) (next : IsNext sc rec steps k x) (shown : IsStepShown sc book (state_at sc rec steps k) x) (inside : k < length steps) (is : x ≡ get_or steps k x) (place : i < length sc.stations) (at : get_or (facilities sc) i 0 ≡ x.station) (now : IsFollowing sc rec steps k clock map fits) where
  abbrev before : CoreState
  before = state_at sc rec steps k

  -- The places of the last fits after the step, and the entries that the map gets.
  abbrev pub fits_then : List ℕ
  fits_then = fits_with fits i (is_some (fit_of x.shown)) (k + 1)

  abbrev pub given : List (ℕ × ℕ)
  given = fit_named steps (get_or fits_then i 0)

  abbrev pub clock_then : ClockView
  clock_then = answered_clock sc (test_of x) i (shows_room x.shown) clock

  abbrev pub map_then : AirMapView
  map_then = record { stations = map.stations; entries = map_after map.entries (get_or clock_then.station_statuses i Active) given }

  listed : i < length (facilities sc)
  listed = let count = length-map sc.stations (λ (y : Station). y.id) in omega (arith, count, place)

  steps_are : before.steps ≡ take k steps
  steps_are = after_steps-steps sc (after_start sc rec.order rec.start) (take k steps)

  given-is : given ≡ delta_of before.steps x.station x.shown
  given-is = named-own (facilities sc) steps fits k i x ascend inside is listed at now.fits_are ∙ ap (λ xs. delta_of xs x.station x.shown) (sym steps_are)

  gives : GivesWithin sc (delta_of before.steps x.station x.shown)
  gives = step-within sc book before (test_of x) x.shown shown (λ f. subst (λ xs. GivesWithin sc (last_fit xs f [])) (sym steps_are) (now.within f))

  -- The map has a place for each station that it gets a channel for.
  pub given-within : (f : ℕ) → has_station given f ≡ true → is_in map.stations f ≡ true
  given-within f there = subst (λ xs. is_in xs f ≡ true) (sym now.stations) (gives f (subst (λ m. has_station m f ≡ true) given-is there))

  clock-then : IsClockOf sc (state_at sc rec steps (k + 1)).clock clock_then
  clock-then = next-clock i next ascend now.left.clock_is place at

  settled-clock : IsClockOf sc (settled sc before (test_of x) x.shown).clock clock_then
  settled-clock = subst (λ (st : CoreState). IsClockOf sc st.clock clock_then) next.moves clock-then

  entries-then : map_then.entries ≡ (state_at sc rec steps (k + 1)).map
  entries-then =
      let air : is_on_air (settled sc before (test_of x) x.shown).clock x.station ≡ is_status_on_air (get_or clock_then.station_statuses i Active) = is_on_air_at i x.station Active settled-clock.station_statuses place at in
      (λ j. if sym air j then overlaid (now.left.entries j) (given-is j) else now.left.entries j)
      ∙ sym (ap (λ (st : CoreState). st.map) next.moves)

  rises-then : IsAscending map_then.entries
  rises-then =
      elim (is_status_on_air (get_or clock_then.station_statuses i Active)) as (λ b. IsAscending (if b then overlaid map.entries given else map.entries)) [
        | true ↦ overlaid-ascending map.entries given now.left.rises
        | false ↦ now.left.rises
      ]

  within-then : (f : ℕ) → GivesWithin sc (last_fit (take (k + 1) steps) f [])
  within-then f =
      let last : last_fit (take (k + 1) steps) f [] ≡ (if x.station == f then unwrap_or (fit_of x.shown) (last_fit (take k steps) f []) else last_fit (take k steps) f []) =
      ap (λ xs. last_fit xs f []) (take-next steps k x inside is) ∙ last_fit-push (take k steps) x f [] in
      let own : GivesWithin sc (delta_of (take k steps) x.station x.shown) = subst (λ xs. GivesWithin sc (delta_of xs x.station x.shown)) steps_are gives in
      subst (GivesWithin sc) (sym last)
      ((elim (x.station == f) as (λ b. (x.station == f) ≡ b → GivesWithin sc (if b then unwrap_or (fit_of x.shown) (last_fit (take k steps) f []) else last_fit (take k steps) f [])) [
        | true ↦ λ e. subst (λ s. GivesWithin sc (unwrap_or (fit_of x.shown) (last_fit (take k steps) s []))) (eqb-true x.station f e) own
        | false ↦ λ e. now.within f
      ]) refl)

  pub next-following : IsFollowing sc rec steps (k + 1) clock_then map_then fits_then
  next-following = record {
    left = record { clock_is = clock-then; entries = entries-then; rises = rises-then };
    stations = now.stations;
    fits_are = fits-next (facilities sc) steps fits k i x ascend inside is listed at now.fits_are;
    within = within-then;
  }

-- The first step that was not replayed is settled in the state after the others.
pub next-shown : (sc : Scenario) (book : BookView) (rec : Record) (steps : List Step) (k : ℕ) (x : Step) → IsBacked sc book rec.order rec → rec.ending ≡ Done → steps ≡ rec.steps → k < length steps → x ≡ get_or steps k x → IsStepShown sc book (state_at sc rec steps k) x
next-shown sc book rec steps k x backed done same inside is =
    let carried = carried-through sc book rec backed done in
    let within : k < length rec.steps = subst (λ (xs : List Step). k < length xs) same inside in
    subst (λ (xs : List Step). IsStepShown sc book (state_at sc rec xs k) x) (sym same)
    (subst (IsStepShown sc book (state_at sc rec rec.steps k)) (sym (is ∙ ap (λ (xs : List Step). get_or xs k x) same))
    (shown-at sc book (after_start sc rec.order rec.start) rec.steps k x carried.shown within))

-- The preconditions of the loop's step for a backed record, whose step is of the station at place i.
module _ (sc : Scenario) (book : BookView) (rec : Record) (steps : List Step) (k count i : ℕ) (x : Step) (clock : ClockView) (map : AirMapView) (fits : List ℕ) (limits : IsWithinLimits sc) (in_order : IsInOrder book) (backed : IsBacked sc book rec.order rec) (done : rec.ending ≡ Done) (same : steps ≡ rec.steps) (there : count ≤ length rec.steps) (test : k < count) (is : x ≡ get_or steps k x) (place : (i < length sc.stations) × (get_or (facilities sc) i 0 ≡ x.station)) (now : IsFollowing sc rec steps k clock map fits) where
  behind : k < length steps
  behind = let long = ap length same in omega (arith, long, there, test)

  comes : IsNext sc rec steps k x
  comes = backed-next sc book rec steps k x (auction-of sc book limits in_order) backed done same behind is

  as_shown : IsStepShown sc book (state_at sc rec steps k) x
  as_shown = next-shown sc book rec steps k x backed done same behind is

  pub backed-within : (f : ℕ) → has_station (fit_named steps (get_or (fits_with fits i (is_some (fit_of x.shown)) (k + 1)) i 0)) f ≡ true → is_in map.stations f ≡ true
  backed-within = given-within sc book rec steps k i x clock map fits limits.ascend comes as_shown behind is place.0 place.1 now

  pub backed-following : (clock' : ClockView) (map' : AirMapView) (fits' : List ℕ) (standing : StationStatus) (number : ℕ) → clock' ≡ answered_clock sc (test_of x) i (shows_room x.shown) clock → fits' ≡ fits_with fits i (is_some (fit_of x.shown)) (k + 1) → standing ≡ get_or clock'.station_statuses i Active → number ≡ get_or fits' i 0 → map' ≡ record { stations = map.stations; entries = map_after map.entries standing (fit_named steps number) } → IsFollowing sc rec steps (k + 1) clock' map' fits'
  backed-following clock' map' fits' standing number clock_is fits_are standing_is number_is map_is =
      let following = next-following sc book rec steps k i x clock map fits limits.ascend comes as_shown behind is place.0 place.1 now in
      let stands : standing ≡ get_or (answered_clock sc (test_of x) i (shows_room x.shown) clock).station_statuses i Active = standing_is ∙ ap (λ (v : ClockView). get_or v.station_statuses i Active) clock_is in
      let names : number ≡ get_or (fits_with fits i (is_some (fit_of x.shown)) (k + 1)) i 0 = number_is ∙ ap (λ xs. get_or xs i 0) fits_are in
      let made : map' ≡ record { stations = map.stations; entries = map_after map.entries (get_or (answered_clock sc (test_of x) i (shows_room x.shown) clock).station_statuses i Active) (fit_named steps (get_or (fits_with fits i (is_some (fit_of x.shown)) (k + 1)) i 0)) } =
      map_is ∙ (λ j. record { stations = map.stations; entries = map_after map.entries (stands j) (fit_named steps (names j)) }) in
      subst (λ (v : ClockView). IsFollowing sc rec steps (k + 1) v map' fits') (sym clock_is)
      (subst (λ (m : AirMapView). IsFollowing sc rec steps (k + 1) (answered_clock sc (test_of x) i (shows_room x.shown) clock) m fits') (sym made)
      (subst (λ (xs : List ℕ). IsFollowing sc rec steps (k + 1) (answered_clock sc (test_of x) i (shows_room x.shown) clock) (record { stations = map.stations; entries = map_after map.entries (get_or (answered_clock sc (test_of x) i (shows_room x.shown) clock).station_statuses i Active) (fit_named steps (get_or (fits_with fits i (is_some (fit_of x.shown)) (k + 1)) i 0)) }) xs) (sym fits_are) following))

-- The list of last fits has a place for each station.
pub length-with : (sc : Scenario) (rec : Record) (steps : List Step) (k i n : ℕ) (clock : ClockView) (map : AirMapView) (fits fits' : List ℕ) (b : Bool) → fits' ≡ fits_with fits i b n → i < length sc.stations → IsFollowing sc rec steps k clock map fits → i < length fits'
length-with sc rec steps k i n clock map fits fits' b are place now =
    let count = length-map sc.stations (λ (y : Station). y.id) in
    let long = now.fits_are.long in
    let kept : length (fits_with fits i b n) ≡ length fits = elim b as (λ b. length (fits_with fits i b n) ≡ length fits) [ true ↦ length-set fits i n | false ↦ refl ] in
    let all = ap length are in
    omega (arith, count, long, kept, all, place)
