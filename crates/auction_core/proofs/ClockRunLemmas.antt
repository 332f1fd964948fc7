-- How a settled test changes a clock run. For `clock_run::settle`.
use Rattle.std.proofs.Common.{◌≡◌, ◌∙◌, ℕ, ◌+◌, ◌-◌, ◌<◌, ◌≤◌, Bool, true, false, not, cond, ◌||◌, eqb, inl, inr, List, [], ◌∷◌, ◌++◌, length, set, get_or, get_or-set_same, Option, sym, ap, subst, arith, length-append}
use Rattle.std.proofs.lemmas.Bool.{false≢true, or_cases, or_right}
use Rattle.pack_defs.specs.declared.order.Order.{Order}
use Rattle.pack_defs.specs.declared.scenario.Scenario.{Scenario}
use Rattle.pack_defs.specs.ChannelMap.{overlaid}
use Rattle.pack_defs.specs.Lists.{is_in, without}
use Rattle.pack_defs.specs.Scenario.{facilities}
use Rattle.pack_defs.specs.Prices.{offer}
use Rattle.pack_defs.specs.ClockRule.{ClockTest, ClockState, FrozenAt, OnAirSince, after_answer, exits, goes_on_air, is_active, is_on_air}
use Rattle.auction_core.specs.declared.clock.StationStatus.{StationStatus}
use Rattle.auction_core.specs.declared.clock.StationStatus.TheVariants.{Active}
use Rattle.auction_core.specs.declared.record.Shown.{Shown}
use Rattle.auction_core.specs.declared.record.Step.{Step}
use Rattle.auction_core.specs.Backed.{after_start, after_steps, shown_start}
use Rattle.auction_core.specs.Clock.{IsClockOf, answered_clock, answered_status, is_status_on_air}
use Rattle.auction_core.specs.ClockRun.{ClockRunView, IsClockRun, IsDue, clock_of, core_state, left_of, map_after, next_test}
use Rattle.auction_core.specs.TestHistory.{TestHistoryView}
use Rattle.auction_core.specs.Rule.{IsAuction}
use Rattle.auction_core.specs.Setup.{IsSetupSound, SetupView}
use Rattle.auction_core.specs.State.{CoreState, delta_of, settled, shows_room}
use Rattle.auction_core.proofs.ClockLemmas.{is_on_air_at, length-standings}
use Rattle.auction_core.proofs.Paid.{answer-clock}
use Rattle.auction_core.proofs.Sets.{step_of}
use Rattle.auction_core.proofs.Steps.{after_steps-push}

pub sound-auction : (s : SetupView) → IsSetupSound s → IsAuction s.scenario s.book
sound-auction s h = let some = h.auction.limits.some_worker in record { stations = h.auction.limits.ascend; in_order = h.in_order; workers = omega (arith, some) }

-- ---- how an answer changes the lists of a state

-- removing a number that is in a list makes the list shorter
length-without : (xs : List ℕ) (x : ℕ) → is_in xs x ≡ true → length (without xs x) + 1 ≤ length xs
length-without [] x h = absurd (false≢true h)
length-without (y ∷ ys) x h =
    (elim (eqb y x) as (λ b. (b || is_in ys x) ≡ true → length (cond (not b) (y ∷ without ys x) (without ys x)) + 1 ≤ length (y ∷ ys)) [
      | true ↦ λ _. let fewer = at_most ys x in omega (arith, fewer)
      | false ↦ λ there. let rest = length-without ys x there in omega (arith, rest)
    ]) h
  where
    at_most : (ys : List ℕ) (x : ℕ) → length (without ys x) ≤ length ys
    at_most [] x = omega arith
    at_most (y ∷ ys) x =
        elim (not (eqb y x)) as (λ b. length (cond b (y ∷ without ys x) (without ys x)) ≤ length (y ∷ ys)) [
          | true ↦ let rest = at_most ys x in omega (arith, rest)
          | false ↦ let rest = at_most ys x in omega (arith, rest)
        ]

-- what is in a list without a number is in the list
in-without : (xs : List ℕ) (x s : ℕ) → is_in (without xs x) s ≡ true → is_in xs s ≡ true
in-without [] x s h = h
in-without (y ∷ ys) x s h =
    (elim (not (eqb y x)) as (λ b. is_in (cond b (y ∷ without ys x) (without ys x)) s ≡ true → (eqb y s || is_in ys s) ≡ true) [
      | true ↦ λ k. elim (or_cases (eqb y s) (is_in (without ys x) s) k) [
        | inl here ↦ ap (λ b. b || is_in ys s) here
        | inr there ↦ or_right (eqb y s) (is_in ys s) (in-without ys x s there)
      ]
      | false ↦ λ k. or_right (eqb y s) (is_in ys s) (in-without ys x s k)
    ]) h

-- the three lists together do not grow, and no station becomes active
pub record Moved (old new : ClockState) : Type 0 where
  pub each : length new.frozen + length new.active + length new.on_air ≤ length old.frozen + length old.active + length old.on_air
  pub kept : (f : ℕ) → is_active new f ≡ true → is_active old f ≡ true

pub moved-by : (sc : Scenario) (st : ClockState) (t : ClockTest) (fits : Bool) → is_active st t.station ≡ true → Moved st (after_answer sc st t fits)
moved-by sc st t true active =
    let fewer = length-without st.active t.station active in
    let on : OnAirSince = record { station = t.station; round = t.round } in
    let more = length-append st.on_air (on ∷ []) in
    elim (exits sc t) as (λ b. Moved st (cond b (goes_on_air st t) st)) [
      | true ↦ record { each = rw more (omega (arith, fewer)); kept = λ f h. in-without st.active t.station f h }
      | false ↦ record { each = omega arith; kept = λ f h. h }
    ]
moved-by sc st t false active =
    let new : FrozenAt = record { station = t.station; round = t.round; price = offer sc t.station (t.round - 1) } in
    let more = length-append st.frozen (new ∷ []) in
    let fewer = length-without st.active t.station active in
    record {
      each = rw more (omega (arith, fewer));
      kept = λ f h. in-without st.active t.station f h;
    }

-- with an active station, the list of active stations is not empty
pub some-active : (st : ClockState) (f : ℕ) → is_active st f ≡ true → 1 ≤ length st.active
some-active st f active = let fewer = length-without st.active f active in omega (arith, fewer)

-- ---- the clock run once its next test is settled

-- the place of the next test's station
pub record IsAt (s : SetupView) (c : ClockRunView) (i : ℕ) : Type 0 where
  pub within : i < length s.scenario.stations
  pub station : get_or (facilities s.scenario) i 0 ≡ (next_test s c).station

-- the standing of the next test's station once the test is settled
abbrev pub next_standing : SetupView → ClockRunView → Shown → StationStatus
next_standing s c shown = answered_status s.scenario (next_test s c) (shows_room shown)

abbrev pub next_clock_run : SetupView → ClockRunView → Shown → ℕ → TestHistoryView → ClockRunView
next_clock_run s c shown i test_history = record {
  start = c.start;
  clock = answered_clock s.scenario (next_test s c) i (shows_room shown) c.clock;
  map = record { stations = c.map.stations; entries = map_after c.map.entries (next_standing s c shown) (delta_of c.test_history.steps (next_test s c).station shown) };
  test_history = test_history;
  round = c.round;
  place_in_round = c.place_in_round + 1;
}

-- the step of the next test is appended
abbrev pub IsStepMore : SetupView → ClockRunView → Shown → TestHistoryView → Type 0
IsStepMore s c shown test_history = test_history.steps ≡ c.test_history.steps ++ step_of (next_test s c) shown ∷ []

-- the clock moves as for that answer
pub next-clock : (s : SetupView) (c : ClockRunView) (shown : Shown) (i : ℕ) (test_history : TestHistoryView) → IsStepMore s c shown test_history → clock_of s (next_clock_run s c shown i test_history) ≡ after_answer s.scenario (clock_of s c) (next_test s c) (shows_room shown)
next-clock s c shown i test_history more =
    let first : CoreState = after_start s.scenario s.order (shown_start c.start) in
    ap (λ xs. (after_steps s.scenario first xs).clock) more ∙ ap (λ z. z.clock) (after_steps-push s.scenario first c.test_history.steps (step_of (next_test s c) shown))

pub next-is-clock : (s : SetupView) (c : ClockRunView) (shown : Shown) (i : ℕ) (test_history : TestHistoryView) → IsSetupSound s → IsClockRun s c → IsDue s c → IsAt s c i → IsStepMore s c shown test_history →
    IsClockOf s.scenario (clock_of s (next_clock_run s c shown i test_history)) (next_clock_run s c shown i test_history).clock
next-is-clock s c shown i test_history l h due at more =
    subst (λ z. IsClockOf s.scenario z (next_clock_run s c shown i test_history).clock) (sym (next-clock s c shown i test_history more))
    (answer-clock i (next_test s c) (shows_room shown) l.auction.limits.ascend h.clock at.within at.station due.active)

-- a state made of these fields
abbrev made : (order : Order) (start : Option Shown) (steps : List Step) (number : ℕ) (left : List ClockTest) (clock : ClockState) (entries : List (ℕ × ℕ)) → CoreState
made order start steps number left clock entries = record { order = order; start = start; clock = clock; left = left; map = entries; steps = steps; noted = []; number = number }

-- the tested station is on air if and only if its standing says so
next-on-air : (s : SetupView) (c : ClockRunView) (shown : Shown) (i : ℕ) (test_history : TestHistoryView) → IsSetupSound s → IsClockRun s c → IsDue s c → IsAt s c i → IsStepMore s c shown test_history →
    is_on_air (after_answer s.scenario (clock_of s c) (next_test s c) (shows_room shown)) (next_test s c).station ≡ is_status_on_air (next_standing s c shown)
next-on-air s c shown i test_history l h due at more =
    let standing = next_standing s c shown in
    let inside : i < length c.clock.station_statuses = rw (length-standings h.clock.station_statuses) at.within in
    let here : get_or (set c.clock.station_statuses i standing) i Active ≡ standing = get_or-set_same c.clock.station_statuses i standing Active inside in
    ap (λ z. is_on_air z (next_test s c).station) (sym (next-clock s c shown i test_history more))
    ∙ (is_on_air_at i (next_test s c).station Active (next-is-clock s c shown i test_history l h due at more).station_statuses at.within at.station ∙ ap is_status_on_air here)

pub next-state : (s : SetupView) (c : ClockRunView) (shown : Shown) (i : ℕ) (test_history : TestHistoryView) (n : ℕ) → IsSetupSound s → IsClockRun s c → IsDue s c → IsAt s c i → IsStepMore s c shown test_history →
    core_state s (next_clock_run s c shown i test_history) n ≡ record (settled s.scenario (core_state s c n) (next_test s c) shown) { left = left_of s (next_clock_run s c shown i test_history) }
next-state s c shown i test_history n l h due at more =
    let t = next_test s c in
    let new = next_clock_run s c shown i test_history in
    let on = next-on-air s c shown i test_history l h due at more in
    (λ j. made s.order c.start (more j) n (left_of s new) (next-clock s c shown i test_history more j) (cond (sym on j) (overlaid c.map.entries (delta_of c.test_history.steps t.station shown)) c.map.entries))
