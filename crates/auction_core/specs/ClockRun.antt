-- A clock run, the clock between two tests, as the program keeps it: a standing for each station, and the turn of the next test in
-- its round. The representation is this project's own.
use Rattle.std.specs.Prelude.{ℕ, Bool, false, not, ◌+◌, ◌-◌, ◌*◌, ◌<◌, ◌≤◌, ◌≡◌, ◌⊎◌, ◌&&◌, nat_le, if◌then◌else◌, true, List, [], ◌∷◌, ◌++◌, map, filter, drop, length, slice_index, Option, None, Some}
use Rattle.pack_defs.specs.Lists.{has_station, is_in}
use Rattle.pack_defs.specs.ChannelMap.{overlaid}
use Rattle.pack_defs.specs.declared.scenario.Scenario.{Scenario}
use Rattle.pack_defs.specs.Scenario.{facilities}
use Rattle.pack_defs.specs.Prices.{declines, last_round}
use Rattle.pack_defs.specs.ClockRule.{ClockTest, ClockState, bidders_in_order, clock_tests, is_active, opening_state, tests_of, round_order}
use Rattle.auction_core.specs.declared.record.Shown.{Shown}
use Rattle.auction_core.specs.declared.clock.StationStatus.{StationStatus}
use Rattle.auction_core.specs.AirMap.{AirMapView}
use Rattle.auction_core.specs.Backed.{after_start, after_steps, shown_start}
use Rattle.auction_core.specs.Clock.{ClockView, IsClockOf, is_status_on_air}
use Rattle.auction_core.specs.ComponentLabels.{AreLabelsOf, last_seen}
use Rattle.auction_core.specs.TestHistory.{TestHistoryView}
use Rattle.auction_core.specs.Setup.{IsSetupSound, SetupView}
use Rattle.auction_core.specs.State.{CoreState, last_fit, settled, settled_unasked, start_delta, start_fits}
use Rattle.auction_core.specs.ClockProgress.{IsClockProgress}

-- A clock run: how the start was settled, if it was; the standings and payments; the map of the stations on air; the test history;
-- the round of the next test, and the turn of its station in the round.
pub record ClockRunView : Type 0 where
  pub start : Option Shown
  pub clock : ClockView
  pub map : AirMapView
  pub test_history : TestHistoryView
  pub round : ℕ
  pub place_in_round : ℕ

-- The test of the station whose turn in the round is i.
abbrev pub test_at : SetupView → ℕ → ℕ → ClockTest
test_at s round i = record { round = round; station = slice_index (round_order s.scenario s.order) i }

-- The next test.
abbrev pub next_test : SetupView → ClockRunView → ClockTest
next_test s c = test_at s c.round c.place_in_round

-- The tests of the clock that are left from turn i of this round on.
abbrev pub tests_left : SetupView → ℕ → ℕ → List ClockTest
tests_left s round i =
    map (λ f. record { round = round; station = f }) (filter (λ f. not (declines s.scenario f 0)) (drop i (round_order s.scenario s.order)))
    ++ tests_of (bidders_in_order s.scenario s.order) (round + 1) (last_round s.scenario - round)

-- The state of the clock after the steps so far.
abbrev pub clock_of : SetupView → ClockRunView → ClockState
clock_of s c = (after_steps s.scenario (after_start s.scenario s.order (shown_start c.start)) c.test_history.steps).clock

-- The tests that are left; none before the start set was shown to fit.
abbrev pub left_of : SetupView → ClockRunView → List ClockTest
left_of s c = if start_fits c.start then tests_left s c.round c.place_in_round else []

-- The state of the auction at the query of this number, with no pending receipt.
abbrev pub core_state : SetupView → ClockRunView → ℕ → CoreState
core_state s c number = record {
  order = s.order;
  start = c.start;
  clock = clock_of s c;
  left = left_of s c;
  map = c.map.entries;
  steps = c.test_history.steps;
  noted = [];
  number = number;
}

-- The clock run once the start test is settled in this way: if it fits, the map takes its channels.
abbrev pub with_start_shown : ClockRunView → Shown → ClockRunView
with_start_shown c shown = record c {
  start = Some shown;
  map = record { stations = c.map.stations; entries = overlaid c.map.entries (start_delta shown) };
}

-- The map once a station has this standing: overwritten with these channels if the station is on air.
abbrev pub map_after : List (ℕ × ℕ) → StationStatus → List (ℕ × ℕ) → List (ℕ × ℕ)
map_after entries standing delta = if is_status_on_air standing then overlaid entries delta else entries

-- Whether the entries give channels to stations of the scenario only.
abbrev pub GivesWithin : Scenario → List (ℕ × ℕ) → Type 0
GivesWithin sc delta = (s : ℕ) → has_station delta s ≡ true → is_in (facilities sc) s ≡ true

-- Whether the test history matches the clock: the labels are those of the stations on air, the counts of stations on air are right,
-- and the fits give channels to the scenario's stations only.
pub record KeepsTestHistory (s : SetupView) (c : ClockRunView) : Type 0 where
  pub component_labels : AreLabelsOf s.scenario s.book (clock_of s c) c.test_history.component_labels
  pub on_air : c.test_history.on_air ≡ length (clock_of s c).on_air
  pub long : length c.test_history.seen ≡ length s.scenario.stations
  pub seen : (i : ℕ) → i < length s.scenario.stations → slice_index c.test_history.seen i ≡ last_seen s.scenario (opening_state s.scenario) c.test_history.steps (slice_index (facilities s.scenario) i) 0
  pub fits : (f : ℕ) → GivesWithin s.scenario (last_fit c.test_history.steps f [])

-- Whether the steps so far are those of the tests before the next one, by the clock rule.
pub record GoesByRule (s : SetupView) (c : ClockRunView) : Type 0 where
  pub before : List ClockTest
  pub all_tests : before ++ left_of s c ≡ clock_tests s.scenario s.order
  pub progress : IsClockProgress s.scenario s.book (shown_start c.start) (core_state s c 0) before

-- Whether the clock has not moved: there is no step and no map entry, and the next test is the first.
pub record IsIdle (c : ClockRunView) : Type 0 where
  pub steps : c.test_history.steps ≡ []
  pub map : c.map.entries ≡ []
  pub round : c.round ≡ 1
  pub place_in_round : c.place_in_round ≡ 0

-- Whether the fields of the clock run fit together: the standings, payments and test history are those of the clock's state, and
-- the steps obey the clock rule.
pub record IsClockRun (s : SetupView) (c : ClockRunView) : Type 0 where
  pub sound : IsSetupSound s
  pub clock : IsClockOf s.scenario (clock_of s c) c.clock
  pub stations : c.map.stations ≡ facilities s.scenario
  pub begun : 1 ≤ c.round
  pub round : c.round ≤ last_round s.scenario
  pub place_in_round : c.place_in_round ≤ length s.scenario.stations
  pub bid : (f : ℕ) → is_active (clock_of s c) f ≡ true → declines s.scenario f 0 ≡ false
  pub idle : start_fits c.start ≡ false → IsIdle c
  pub each : length (clock_of s c).frozen + length (clock_of s c).active + length (clock_of s c).on_air ≤ length s.scenario.stations
  pub test_history : KeepsTestHistory s c
  pub rule : start_fits c.start ≡ true → GoesByRule s c

-- Whether no test is left: the last turn of the last round is over.
abbrev pub IsOver : SetupView → ClockRunView → Type 0
IsOver s c = (c.place_in_round ≡ length s.scenario.stations) × (c.round ≡ last_round s.scenario)

-- Whether the next test is of an active station.
pub record IsDue (s : SetupView) (c : ClockRunView) : Type 0 where
  pub place_in_round : c.place_in_round < length s.scenario.stations
  pub active : is_active (clock_of s c) (next_test s c).station ≡ true

-- How the next test is settled without a query; `None` if it needs one.
abbrev pub unasked_of : SetupView → ClockRunView → Option Shown
unasked_of s c = settled_unasked s.scenario s.book (core_state s c 0) (next_test s c)

-- Whether the clock is at rest: at a test that needs a query, or at the end.
abbrev pub IsAtRest : SetupView → ClockRunView → Type 0
IsAtRest s c = IsOver s c ⊎ (IsDue s c × (unasked_of s c ≡ None))

-- Whether `new` is `old` with its next test settled in this way: the fields still fit together, the state has the step, and the
-- tests after this one are left.
pub record IsSettled (s : SetupView) (shown : Shown) (old new : ClockRunView) : Type 0 where
  pub holds : IsClockRun s new
  pub state : (n : ℕ) → core_state s new n ≡ record (settled s.scenario (core_state s old n) (next_test s old) shown) { left = left_of s new }
  pub left : left_of s old ≡ next_test s old ∷ left_of s new

-- The number of turns that are left, counting the end of each round as one.
abbrev pub places_left : SetupView → ClockRunView → ℕ
places_left s c = (last_round s.scenario - c.round) * (length s.scenario.stations + 1) + (length s.scenario.stations - c.place_in_round)

-- Whether there is room for a step of every test that is left, and for one verdict.
abbrev pub is_roomy : SetupView → ClockRunView → Bool
is_roomy s c = nat_le (places_left s c) c.test_history.room && nat_le 1 c.test_history.verdicts
