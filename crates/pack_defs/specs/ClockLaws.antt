-- Laws of the clock rule, each a statement about every scenario and book. `src/clock_laws` proves them in the same order, together with
-- the laws that are short enough to be written out there.
use Rattle.std.specs.Prelude.{◌≡◌, ◌-◌, ◌<◌, ◌≤◌, ◌⊎◌, ◌↔◌, ℕ, List, [], ◌∷◌, ◌++◌, None, Some, Contains, IsTrue, IsFalse, MatchOption, map}
use Rattle.pack_defs.specs.Book.{BookView}
use Rattle.pack_defs.specs.Components.{component}
use Rattle.pack_defs.specs.Packing.{fits}
use Rattle.pack_defs.specs.declared.order.Order.{Order}
use Rattle.pack_defs.specs.declared.owners.OwnerLine.{OwnerLine}
use Rattle.pack_defs.specs.declared.order.Order.TheVariants.{ByVolume}
use Rattle.pack_defs.specs.declared.scenario.Scenario.{Scenario}
use Rattle.pack_defs.specs.Scenario.{StationsAscend, facilities, volume_of, value_of, with_owners}
use Rattle.pack_defs.specs.Prices.{offer, declines, stays, start_set, last_round}
use Rattle.pack_defs.specs.ClockRule.{ClockTest, ClockState, OnAirSince, FrozenAt, round_order, opening_state, is_active, is_listed, freezes, after_answer, on_air_set, asked_set, asked_from, asked_tests, after_tests, clock_rule}
use Rattle.pack_defs.specs.StationEntries.{station_entry_count}
use Rattle.pack_defs.specs.TestAnswer.{test_answers, row_from_answers}
use Rattle.pack_defs.specs.Threshold.{IsThresholdPrice}
use Rattle.pack_defs.specs.ResultRows.{ResultRow, Undecided, frozen_row, on_air_row, result_rows, row_of}

-- After any tests each station of the scenario has exactly one entry: on air, frozen or active.
abbrev pub EachStationOnce : Type 0
EachStationOnce =
    (sc : Scenario) (book : BookView) (undecided tests : List ClockTest) (s : ℕ) →
    StationsAscend sc → Contains (facilities sc) s →
    station_entry_count (after_tests sc book undecided tests (opening_state sc)) s ≡ 1

-- If the start set fits, the stations on air fit after any tests.
abbrev pub OnAirFits : Type 0
OnAirFits =
    (sc : Scenario) (book : BookView) (undecided tests : List ClockTest) →
    IsTrue (fits book (start_set sc)) →
    IsTrue (fits book (on_air_set sc (after_tests sc book undecided tests (opening_state sc))))

-- A test asks no more than whether the component of its station, among the stations on air, fits.
abbrev pub ComponentDecidesTest : Type 0
ComponentDecidesTest =
    (sc : Scenario) (book : BookView) (state : ClockState) (s : ℕ) →
    Contains (facilities sc) s → IsTrue (fits book (on_air_set sc state)) →
    fits book (asked_set sc state s) ≡ fits book (component book (asked_set sc state s) s)

-- The result has a row for each station of the scenario, in ascending order.
abbrev pub EachHasItsRow : Type 0
EachHasItsRow =
    (sc : Scenario) (book : BookView) (order : Order) (undecided : List ClockTest) →
    StationsAscend sc →
    map (λ row. row.facility) (result_rows sc (clock_rule sc book order undecided) undecided) ≡ facilities sc

-- The row of a frozen station has its round and its price; its outcome is undecided exactly if the test that froze it was undecided.
abbrev pub FrozenHaveTheirRows : Type 0
FrozenHaveTheirRows =
    (sc : Scenario) (book : BookView) (order : Order) (undecided : List ClockTest) (f : FrozenAt) →
    StationsAscend sc → Contains (clock_rule sc book order undecided).frozen f →
    Contains (result_rows sc (clock_rule sc book order undecided) undecided) (frozen_row undecided f)

-- The row of a station on air has the round in which the station went on air, and no price.
abbrev pub OnAirHaveTheirRows : Type 0
OnAirHaveTheirRows =
    (sc : Scenario) (book : BookView) (order : Order) (undecided : List ClockTest) (x : OnAirSince) →
    StationsAscend sc → Contains (clock_rule sc book order undecided).on_air x →
    Contains (result_rows sc (clock_rule sc book order undecided) undecided) (on_air_row x)

-- An asked test that is undecided has an undecided row in the result, at the price that its station was offered one round before.
abbrev pub UndecidedAreShown : Type 0
UndecidedAreShown =
    (sc : Scenario) (book : BookView) (order : Order) (undecided : List ClockTest) (t : ClockTest) →
    StationsAscend sc → Contains (asked_tests sc book order undecided) t → IsTrue (is_listed undecided t) →
    Contains (result_rows sc (clock_rule sc book order undecided) undecided)
    (record { facility = t.station; outcome = Undecided; round = t.round; price = offer sc t.station (t.round - 1) })

-- A row whose outcome is undecided belongs to one of the undecided tests.
abbrev pub ShownUndecidedAreListed : Type 0
ShownUndecidedAreListed =
    (sc : Scenario) (state : ClockState) (undecided : List ClockTest) (row : ResultRow) →
    Contains (result_rows sc state undecided) row → row.outcome ≡ Undecided →
    IsTrue (is_listed undecided (record { round = row.round; station = row.facility }))

-- The next tests begin in the state that the first tests leave.
abbrev pub TestsCompose : Type 0
TestsCompose =
    (sc : Scenario) (book : BookView) (undecided first then : List ClockTest) (state : ClockState) →
    after_tests sc book undecided (first ++ then) state ≡
    after_tests sc book undecided then (after_tests sc book undecided first state)

-- Two lists of undecided tests that agree on some tests lead to the same state after these tests.
abbrev pub SameUndecidedGiveOneState : Type 0
SameUndecidedGiveOneState =
    (sc : Scenario) (book : BookView) (u v tests : List ClockTest) (state : ClockState) →
    ((t : ClockTest) → Contains tests t → is_listed u t ≡ is_listed v t) →
    after_tests sc book u tests state ≡ after_tests sc book v tests state

-- One more test, answered by whether its set fits, changes the state as that answer does.
abbrev pub AnsweredTestMovesTheState : Type 0
AnsweredTestMovesTheState =
    (sc : Scenario) (book : BookView) (undecided done : List ClockTest) (t : ClockTest) (opening : ClockState) →
    let state = after_tests sc book undecided done opening in
    IsTrue (is_active state t.station) → IsFalse (is_listed undecided t) →
    after_tests sc book undecided (done ++ t ∷ []) opening ≡
    after_answer sc state t (fits book (asked_set sc state t.station))

-- One more test, left undecided, joins the undecided tests and freezes its station.
abbrev pub UndecidedTestFreezes : Type 0
UndecidedTestFreezes =
    (sc : Scenario) (book : BookView) (undecided done : List ClockTest) (t : ClockTest) (opening : ClockState) →
    let state = after_tests sc book undecided done opening in
    IsTrue (is_active state t.station) → IsFalse (is_listed done t) →
    after_tests sc book (undecided ++ t ∷ []) (done ++ t ∷ []) opening ≡ freezes sc state t

-- The asked tests of two sequences are those of the first, and then those of the second from the state in which the second begins.
abbrev pub AskedTestsCompose : Type 0
AskedTestsCompose =
    (sc : Scenario) (book : BookView) (undecided first then : List ClockTest) (state : ClockState) →
    asked_from sc book undecided (first ++ then) state ≡
    asked_from sc book undecided first state ++
    asked_from sc book undecided then (after_tests sc book undecided first state)

-- Under two lists of undecided tests that agree on some tests, the same of these tests are asked.
abbrev pub SameUndecidedAskTheSame : Type 0
SameUndecidedAskTheSame =
    (sc : Scenario) (book : BookView) (u v tests : List ClockTest) (state : ClockState) →
    ((t : ClockTest) → Contains tests t → is_listed u t ≡ is_listed v t) →
    asked_from sc book u tests state ≡ asked_from sc book v tests state

-- In the order by volume, a station that comes before another has a greater volume, or the same volume and a lesser facility number.
abbrev pub GreaterVolumeComesFirst : Type 0
GreaterVolumeComesFirst =
    (sc : Scenario) (first then : List ℕ) (s t : ℕ) →
    StationsAscend sc → round_order sc ByVolume ≡ first ++ s ∷ then → Contains then t →
    (volume_of sc t < volume_of sc s) ⊎ ((volume_of sc t ≡ volume_of sc s) × (s < t))

-- No station is paid less than its value in an auction by values, whichever tests were left undecided.
abbrev pub NoneIsPaidBelowValue : Type 0
NoneIsPaidBelowValue =
    (sc : Scenario) (book : BookView) (order : Order) (undecided : List ClockTest) (f : FrozenAt) (v : ℕ) →
    StationsAscend sc → sc.owners ≡ None → Contains (clock_rule sc book order undecided).frozen f →
    value_of sc f.station ≡ Some v → v ≤ f.price

-- A live auction has the outcome of the auction by values if, up to the last fall, its lines say that a station stays exactly when its
-- value is at most its offer.
abbrev pub LinesFollowingValuesActAsValues : Type 0
LinesFollowingValuesActAsValues =
    (sc : Scenario) (lines : List OwnerLine) (book : BookView) (order : Order) (undecided : List ClockTest) →
    ((s r : ℕ) → Contains (facilities sc) s → r < last_round sc → IsTrue (stays lines r s) ↔ MatchOption (value_of sc s) ⊥ (λ v. v ≤ offer sc s r)) →
    clock_rule (with_owners sc (Some lines)) book order undecided ≡ clock_rule (with_owners sc None) book order undecided

-- The row of a station outside the start set is the row that the answers to its tests determine.
abbrev pub RowFollowsFromAnswers : Type 0
RowFollowsFromAnswers =
    (sc : Scenario) (book : BookView) (order : Order) (undecided : List ClockTest) (s : ℕ) →
    Contains (facilities sc) s → IsFalse (declines sc s 0) →
    row_of undecided (clock_rule sc book order undecided) s ≡ row_from_answers sc s (test_answers sc book order undecided s)

-- The row of a station of the start set says that the station is on air since round 0.
abbrev pub StartSetKeepsRoundZero : Type 0
StartSetKeepsRoundZero =
    (sc : Scenario) (book : BookView) (order : Order) (undecided : List ClockTest) (s : ℕ) →
    Contains (facilities sc) s → IsTrue (declines sc s 0) →
    row_of undecided (clock_rule sc book order undecided) s ≡ Some (on_air_row (record { station = s; round = 0 }))

-- Two live auctions in which the owner's lines of a station agree, and the answers to its tests agree, have the same row for the station.
abbrev pub RowDependsOnOwnTests : Type 0
RowDependsOnOwnTests =
    (sc : Scenario) (book : BookView) (order : Order) (u v : List ClockTest) (a b : List OwnerLine) (s : ℕ) →
    Contains (facilities sc) s → ((r : ℕ) → stays a r s ≡ stays b r s) →
    test_answers (with_owners sc (Some a)) book order u s ≡ test_answers (with_owners sc (Some b)) book order v s →
    row_of u (clock_rule (with_owners sc (Some a)) book order u) s ≡ row_of v (clock_rule (with_owners sc (Some b)) book order v) s

-- In an auction by values with every test decided, each frozen station is paid its threshold price.
abbrev pub FrozenArePaidTheirThreshold : Type 0
FrozenArePaidTheirThreshold =
    (sc : Scenario) (book : BookView) (order : Order) (f : FrozenAt) →
    StationsAscend sc → sc.owners ≡ None → Contains (clock_rule sc book order []).frozen f →
    IsThresholdPrice sc book order f.station f.price
