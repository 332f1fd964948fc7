-- The clock run before the start test, and once that test is settled. For `clock_run::begin`.
use Rattle.std.specs.Prelude.{find, option_map}
use Rattle.std.proofs.Common.{MatchOption, ◌≡◌, ◌∙◌, ℕ, ◌+◌, ◌≤◌, Bool, true, false, not, cond, List, [], ◌∷◌, length, filter, get_or, Option, Some, None, refl, sym, ap, ap₂, subst, arith}
use Rattle.std.proofs.lemmas.Bool.{cond-false, cond-true, false≢true, not-true}
use Rattle.std.proofs.lemmas.List.{length-map}
use Rattle.pack_defs.specs.declared.scenario.Scenario.{Scenario}
use Rattle.pack_defs.specs.declared.station.Station.{Station}
use Rattle.pack_defs.specs.Book.{BookView, domain_of}
use Rattle.pack_defs.specs.ChannelMap.{overlaid}
use Rattle.pack_defs.specs.Lists.{has_station, is_empty}
use Rattle.pack_defs.specs.Scenario.{facilities}
use Rattle.pack_defs.specs.Prices.{bidders, declines, start_set}
use Rattle.pack_defs.specs.ClockRule.{ClockState, OnAirSince, clock_tests, is_active, opening_state}
use Rattle.pack_defs.proofs.Members.{Contains-from_filter, is_in-gives}
use Rattle.auction_core.specs.declared.record.Shown.{Shown}
use Rattle.auction_core.specs.declared.record.Shown.TheVariants.{Empty, Fits, Same, NoChannel, Refuted, Outside, Undecided}
use Rattle.auction_core.specs.declared.record.Step.{Step}
use Rattle.auction_core.specs.Backed.{IsSettledBy, IsStartShown, after_start, after_steps, shown_start}
use Rattle.auction_core.specs.Clock.{ClockView, IsClockOf}
use Rattle.auction_core.specs.ClockRun.{ClockRunView, GivesWithin, GoesByRule, IsClockRun, IsIdle, clock_of, core_state, left_of, tests_left}
use Rattle.auction_core.specs.ComponentLabels.{AreLabelsOf, last_seen}
use Rattle.auction_core.specs.TestHistory.{TestHistoryView}
use Rattle.auction_core.specs.Setup.{IsSetupSound, SetupView}
use Rattle.auction_core.specs.State.{CoreState, before_start, advance_to_query, last_fit, shows_room, start_delta, start_fits, start_task, started}
use Rattle.auction_core.proofs.Answers.{filter-in}
use Rattle.auction_core.proofs.ClockRunLemmas.{sound-auction}
use Rattle.auction_core.proofs.ClockRunTests.{go_on-left, left-all, left-runs, walked-same}
use Rattle.auction_core.proofs.Keeps.{IsBare, first-walk}
use Rattle.auction_core.proofs.Sets.{within-fit}

-- ---- before the start test

-- the elements that satisfy p and those that do not are at most all
both-kinds : (p : ℕ → Bool) (xs : List ℕ) → length (filter (λ x. not (p x)) xs) + length (filter p xs) ≤ length xs
both-kinds p [] = omega arith
both-kinds p (x ∷ xs) =
    let rest = both-kinds p xs in
    elim (p x) as (λ b. length (cond (not b) (x ∷ filter (λ x. not (p x)) xs) (filter (λ x. not (p x)) xs)) + length (cond b (x ∷ filter p xs) (filter p xs)) ≤ length (x ∷ xs)) [
      | true ↦ omega (arith, rest)
      | false ↦ omega (arith, rest)
    ]

-- the clock run before the start test
abbrev pub opening_clock_run : Scenario → ClockView → TestHistoryView → ClockRunView
opening_clock_run sc clock test_history = record { start = None; clock = clock; map = record { stations = facilities sc; entries = [] }; test_history = test_history; round = 1; place_in_round = 0 }

-- the test history before the first test
pub record IsFirstTestHistory (s : SetupView) (test_history : TestHistoryView) : Type 0 where
  pub component_labels : AreLabelsOf s.scenario s.book (opening_state s.scenario) test_history.component_labels
  pub on_air : test_history.on_air ≡ length (opening_state s.scenario).on_air
  pub long : length test_history.seen ≡ length s.scenario.stations
  pub seen : (i : ℕ) → get_or test_history.seen i 0 ≡ 0
  pub steps : test_history.steps ≡ []

pub first-clock : (s : SetupView) (station_statuses : ClockView) (test_history : TestHistoryView) → test_history.steps ≡ [] → clock_of s (opening_clock_run s.scenario station_statuses test_history) ≡ opening_state s.scenario
first-clock s station_statuses test_history none = ap (λ xs. (after_steps s.scenario (after_start s.scenario s.order Empty) xs).clock) none

pub first-holds : (s : SetupView) (station_statuses : ClockView) (test_history : TestHistoryView) → IsSetupSound s → IsClockOf s.scenario (opening_state s.scenario) station_statuses → IsFirstTestHistory s test_history → IsClockRun s (opening_clock_run s.scenario station_statuses test_history)
first-holds s station_statuses test_history l are f =
    let sc = s.scenario in
    let clock = first-clock s station_statuses test_history f.steps in
    let all = length-map sc.stations (λ (x : Station). x.id) in
    let few = both-kinds (λ z. declines sc z 0) (facilities sc) in
    let on = length-map (start_set sc) (λ z. (let x : OnAirSince = record { station = z; round = 0 } in x)) in
    record {
      sound = l;
      clock = subst (λ z. IsClockOf sc z station_statuses) (sym clock) are;
      stations = refl;
      begun = omega arith;
      round = omega arith;
      place_in_round = omega arith;
      bid = λ f active. not-true (declines sc f 0) (Contains-from_filter (λ z. not (declines sc z 0)) (facilities sc) f (is_in-gives (bidders sc) f (subst (λ (z : ClockState). is_active z f ≡ true) clock active))).1;
      idle = λ _. record { steps = f.steps; map = refl; round = refl; place_in_round = refl };
      each = subst (λ (z : ClockState). length z.frozen + length z.active + length z.on_air ≤ length sc.stations) (sym clock) (omega (arith, few, on, all));
      test_history = record {
        component_labels = subst (λ z. AreLabelsOf sc s.book z test_history.component_labels) (sym clock) f.component_labels;
        on_air = f.on_air ∙ sym (ap (λ (z : ClockState). length z.on_air) clock);
        long = f.long;
        seen = λ i inside. f.seen i ∙ sym (ap (λ xs. last_seen sc (opening_state sc) xs (get_or (facilities sc) i 0) 0) f.steps);
        fits = λ z. subst (λ xs. GivesWithin sc (last_fit xs z [])) (sym f.steps) (λ y there. absurd (false≢true there));
      };
      rule = λ running. absurd (false≢true running);
    }

pub first-state : (s : SetupView) (station_statuses : ClockView) (test_history : TestHistoryView) → test_history.steps ≡ [] → core_state s (opening_clock_run s.scenario station_statuses test_history) 1 ≡ before_start s.scenario s.order
first-state s station_statuses test_history none =
    let first : ClockState → List Step → CoreState = λ c xs. record (before_start s.scenario s.order) { clock = c; steps = xs } in
    ap₂ first (first-clock s station_statuses test_history none) none

-- ---- once the start test is settled

-- before any step the clock is at its opening
idle-clock : (s : SetupView) (c : ClockRunView) → IsIdle c → clock_of s c ≡ opening_state s.scenario
idle-clock s c h = ap (λ xs. (after_steps s.scenario (after_start s.scenario s.order (shown_start c.start)) xs).clock) h.steps

-- a start that does not fit puts nothing into the map
gives-none : (shown : Shown) → shows_room shown ≡ false → start_delta shown ≡ []
gives-none Empty h = refl
gives-none (Fits delta) h = absurd (false≢true (sym h))
gives-none Same h = refl
gives-none (NoChannel s) h = refl
gives-none (Refuted w how) h = refl
gives-none (Outside proof) h = refl
gives-none (Undecided receipts) h = refl

-- the start gives channels to the scenario's stations only
pub start-within : (sc : Scenario) (book : BookView) (shown : Shown) → IsStartShown sc book shown → GivesWithin sc (start_delta shown)
start-within sc book shown h =
    let bare : Option ℕ = find (λ s. is_empty (domain_of book s)) (start_set sc) in
    let none : (u : Shown) → start_delta u ≡ [] → shown ≡ u → GivesWithin sc (start_delta shown) = λ u e same z there. absurd (false≢true (sym (ap (λ m. has_station m z) (ap start_delta same ∙ e)) ∙ there)) in
    let inner : (o : Option ℕ) → MatchOption (option_map NoChannel o) (IsSettledBy sc book (start_task sc 1) shown) (λ unasked. shown ≡ unasked) → GivesWithin sc (start_delta shown) = λ o. elim o as (λ o. MatchOption (option_map NoChannel o) (IsSettledBy sc book (start_task sc 1) shown) (λ unasked. shown ≡ unasked) → GivesWithin sc (start_delta shown)) [
      | None ↦ λ k. by-query shown k
      | Some s ↦ λ k. none (NoChannel s) refl k
    ] in
    let outer : (b : Bool) → MatchOption (cond b (Some Empty) (option_map NoChannel bare)) (IsSettledBy sc book (start_task sc 1) shown) (λ unasked. shown ≡ unasked) → GivesWithin sc (start_delta shown) = λ b. elim b as (λ b. MatchOption (cond b (Some Empty) (option_map NoChannel bare)) (IsSettledBy sc book (start_task sc 1) shown) (λ unasked. shown ≡ unasked) → GivesWithin sc (start_delta shown)) [
      | true ↦ λ k. none Empty refl k
      | false ↦ λ k. inner bare k
    ] in
    outer (is_empty (start_set sc)) h
  where
    by-query : (shown : Shown) → IsSettledBy sc book (start_task sc 1) shown → GivesWithin sc (start_delta shown)
    by-query Empty k = absurd k
    by-query (Fits delta) k = λ z there. (filter-in (λ f. declines sc f 0) (facilities sc) z (within-fit book (start_set sc) [] delta k z there)).0
    by-query Same k = absurd k
    by-query (NoChannel s) k = absurd k
    by-query (Refuted w how) k = λ z there. absurd (false≢true there)
    by-query (Outside proof) k = absurd k
    by-query (Undecided receipts) k = λ z there. absurd (false≢true there)

-- the clock run once the start test is settled
abbrev pub begun : ClockRunView → Shown → ClockRunView
begun c shown = record c { start = Some shown; map = record { stations = c.map.stations; entries = overlaid c.map.entries (start_delta shown) } }

begun-idle : (c : ClockRunView) (shown : Shown) → IsIdle c → shows_room shown ≡ false → IsIdle (begun c shown)
begun-idle c shown h none = record {
  steps = h.steps;
  map = ap (overlaid c.map.entries) (gives-none shown none) ∙ h.map;
  round = h.round;
  place_in_round = h.place_in_round;
}

begun-clock : (s : SetupView) (c : ClockRunView) (shown : Shown) → IsIdle c → clock_of s (begun c shown) ≡ clock_of s c
begun-clock s c shown h = ap (λ xs. (after_steps s.scenario (after_start s.scenario s.order shown) xs).clock) h.steps ∙ sym (idle-clock s c h)

none-runs : (c : ClockRunView) → c.start ≡ None → start_fits c.start ≡ false
none-runs c fresh = ap start_fits fresh

-- all tests are left
begun-left : (s : SetupView) (c : ClockRunView) (shown : Shown) → IsIdle c → shows_room shown ≡ true → left_of s (begun c shown) ≡ clock_tests s.scenario s.order
begun-left s c shown h room = left-runs s (begun c shown) room ∙ (ap₂ (tests_left s) h.round h.place_in_round ∙ left-all s)

begun-rule : (s : SetupView) (c : ClockRunView) (shown : Shown) → IsSetupSound s → c.start ≡ None → IsIdle c → IsStartShown s.scenario s.book shown → shows_room shown ≡ true → GoesByRule s (begun c shown)
begun-rule s c shown l fresh h is room =
    let bare : IsBare s.scenario (core_state s c 0) = record { clock = idle-clock s c h; left = cond-false (start_fits c.start) (tests_left s c.round c.place_in_round) [] (none-runs c fresh); map = h.map; steps = h.steps } in
    let progress = first-walk s.scenario s.book shown (core_state s c 0) (sound-auction s l) bare is room in
    record {
      before = [];
      all_tests = begun-left s c shown h room;
      progress = walked-same s shown (record (core_state s c 0) { start = Some shown; map = overlaid c.map.entries (start_delta shown) }) (core_state s (begun c shown) 0) [] refl (sym (begun-clock s c shown h)) refl refl progress;
    }

pub begun-holds : (s : SetupView) (c : ClockRunView) (shown : Shown) → c.start ≡ None → IsClockRun s c → IsStartShown s.scenario s.book shown → IsClockRun s (begun c shown)
begun-holds s c shown fresh h is =
    let sc = s.scenario in
    let idle = h.idle (none-runs c fresh) in
    let clock = begun-clock s c shown idle in
    let back = sym clock in
    record {
      sound = h.sound;
      clock = subst (λ z. IsClockOf sc z c.clock) back h.clock;
      stations = h.stations;
      begun = h.begun;
      round = h.round;
      place_in_round = h.place_in_round;
      bid = λ f active. h.bid f (subst (λ (z : ClockState). is_active z f ≡ true) clock active);
      idle = λ none. begun-idle c shown idle none;
      each = subst (λ (z : ClockState). length z.frozen + length z.active + length z.on_air ≤ length sc.stations) back h.each;
      test_history = record {
        component_labels = subst (λ z. AreLabelsOf sc s.book z c.test_history.component_labels) back h.test_history.component_labels;
        on_air = subst (λ (z : ClockState). c.test_history.on_air ≡ length z.on_air) back h.test_history.on_air;
        long = h.test_history.long;
        seen = h.test_history.seen;
        fits = h.test_history.fits;
      };
      rule = λ room. begun-rule s c shown h.sound fresh idle is room;
    }

pub begun-state : (s : SetupView) (c : ClockRunView) (shown : Shown) (n : ℕ) → c.start ≡ None → IsClockRun s c → shows_room shown ≡ true →
    advance_to_query s.scenario s.book (left_of s (begun c shown)) (core_state s (begun c shown) n) ≡ started s.scenario s.book (core_state s c n) shown
begun-state s c shown n fresh h room =
    let idle = h.idle (none-runs c fresh) in
    let mid : ClockRunView = begun c shown in
    let on : CoreState = record (core_state s c n) { start = Some shown; map = overlaid c.map.entries (start_delta shown) } in
    ap (λ z. advance_to_query s.scenario s.book (left_of s mid) (record (core_state s mid n) { clock = z })) (begun-clock s c shown idle)
    ∙ (go_on-left s.scenario s.book (left_of s mid) (left_of s mid) on
    ∙ (ap (λ l. advance_to_query s.scenario s.book l on) (begun-left s c shown idle room)
    ∙ sym (cond-true (shows_room shown) (advance_to_query s.scenario s.book (clock_tests s.scenario s.order) on) (record (core_state s c n) { start = Some shown }) room)))

pub begun-ended : (s : SetupView) (c : ClockRunView) (shown : Shown) (n : ℕ) → c.start ≡ None → IsClockRun s c → shows_room shown ≡ false →
    core_state s (begun c shown) n ≡ started s.scenario s.book (core_state s c n) shown
begun-ended s c shown n fresh h none =
    let idle = h.idle (none-runs c fresh) in
    let mid : ClockRunView = begun c shown in
    let on : CoreState = record (core_state s c n) { start = Some shown; map = overlaid c.map.entries (start_delta shown) } in
    let off : CoreState = record (core_state s c n) { start = Some shown } in
    let left : left_of s mid ≡ left_of s c = cond-false (shows_room shown) (tests_left s c.round c.place_in_round) [] none ∙ sym (cond-false (start_fits c.start) (tests_left s c.round c.place_in_round) [] (none-runs c fresh)) in
    (λ i. record off { clock = begun-clock s c shown idle i; left = left i; map = overlaid c.map.entries (gives-none shown none i) })
    ∙ sym (cond-false (shows_room shown) (advance_to_query s.scenario s.book (clock_tests s.scenario s.order) on) off none)
