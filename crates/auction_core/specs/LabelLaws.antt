-- Laws of the component labels that are too long to state in `src/label_laws`, which proves all of them in this order.
use Rattle.std.specs.Prelude.{◌≡◌, ◌++◌, ◌∷◌, ◌<◌, ◌≤◌, ◌↔◌, ◌+◌, not, length, ℕ, List, map, Contains, true, false}
use Rattle.pack_defs.specs.Book.{BookView}
use Rattle.pack_defs.specs.Components.{component, interferes}
use Rattle.pack_defs.specs.Lists.{is_in, same_list}
use Rattle.pack_defs.specs.declared.scenario.Scenario.{Scenario}
use Rattle.pack_defs.specs.Scenario.{facilities}
use Rattle.pack_defs.specs.ClockRule.{ClockState, ClockTest, after_tests, asked_from, clock_tests, goes_on_air, is_active, is_on_air, opening_state}
use Rattle.auction_core.specs.Backed.{after_start, after_steps, undecided_of}
use Rattle.auction_core.specs.ComponentLabels.{AreComponents, AreLabelsOf, IsWithOneMore, ComponentLabelsView, label_of, labelled, last_seen, relabelled, touches_since}
use Rattle.auction_core.specs.declared.record.Shown.{Shown}
use Rattle.auction_core.specs.Rule.{IsAuction}
use Rattle.auction_core.specs.State.{CoreState, is_same, test_of, tested_set}

-- The labels stay right when a station goes on air: its number becomes the label of the components that it touches.
abbrev pub LabelsGrow : Type 0
LabelsGrow =
    (book : BookView) (on all : List ℕ) (since more label : ℕ → ℕ) (s n : ℕ) → AreComponents book on since label → IsWithOneMore on all s →
    ((z : ℕ) → Contains on z → more z ≡ since z) → more s ≡ n → ((z : ℕ) → Contains on z → label z < n) →
    AreComponents book all more (relabelled book on label s n)

-- The other stations that a test asks about were all on air before some time if and only if the labels that its station touches are
-- before that time.
abbrev pub LabelsTellLastChange : Type 0
LabelsTellLastChange =
    (book : BookView) (on all : List ℕ) (since label : ℕ → ℕ) (s time : ℕ) → AreComponents book on since label → IsWithOneMore on all s →
    ((z : ℕ) → is_in (component book all s) z ≡ true → (z ≡ s → ⊥) → since z < time) ↔
    ((v : ℕ) → Contains on v → interferes book s v ≡ true → label v < time)

-- If every station on air then is on air now, a test asks about the same stations as an earlier one if and only if each of them,
-- apart from the tested one, was on air then.
abbrev pub SameWhereAllWereOnAir : Type 0
SameWhereAllWereOnAir =
    (sc : Scenario) (book : BookView) (then_ now_ : ClockState) (s : ℕ) → IsAuction sc book → Contains (facilities sc) s →
    ((f : ℕ) → is_on_air then_ f ≡ true → is_on_air now_ f ≡ true) →
    (same_list (tested_set sc book now_ s) (tested_set sc book then_ s) ≡ true) ↔
    ((z : ℕ) → is_in (tested_set sc book now_ s) z ≡ true → (z ≡ s → ⊥) → is_on_air then_ z ≡ true)

-- From round 2 on, the test of an active station asks about the same stations as its test one round before if and only if the
-- station touches no component that changed since.
abbrev pub SameIfNoLabelChanged : Type 0
SameIfNoLabelChanged =
    (sc : Scenario) (book : BookView) (state : CoreState) (before after : List ClockTest) (t : ClockTest) (start : Shown) (component_labels : ComponentLabelsView) →
    IsAuction sc book → clock_tests sc state.order ≡ before ++ t ∷ after →
    state.clock ≡ after_tests sc book (undecided_of state.steps) before (opening_state sc) →
    map test_of state.steps ≡ asked_from sc book (undecided_of state.steps) before (opening_state sc) →
    (after_steps sc (after_start sc state.order start) state.steps).clock ≡ state.clock →
    is_active state.clock t.station ≡ true → AreLabelsOf sc book state.clock component_labels → 2 ≤ t.round →
    is_same sc book state t ≡ not (touches_since book component_labels t.station (last_seen sc (opening_state sc) state.steps t.station 0 + 1))

-- The labels follow the clock: after a station joins the components that it touches, they are the labels of the clock's new state.
abbrev pub LabelsFollowClock : Type 0
LabelsFollowClock =
    (sc : Scenario) (book : BookView) (clock : ClockState) (t : ClockTest) (component_labels more : ComponentLabelsView) →
    Contains (facilities sc) t.station → is_on_air clock t.station ≡ false → AreLabelsOf sc book clock component_labels →
    more.stations ≡ component_labels.stations →
    ((z : ℕ) → label_of more z ≡ relabelled book (labelled component_labels) (label_of component_labels) t.station (length clock.on_air + 1) z) →
    AreLabelsOf sc book (goes_on_air clock t) more
