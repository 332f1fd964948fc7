-- The new fields are those of the clock run once its next test is settled.
use Rattle.std.proofs.Common.{◌≡◌, ◌∙◌, ℕ, ◌+◌, ◌<◌, List, ◌∷◌, [], ◌++◌, None, ap, sym, subst, get_or, get_or-set_same, set, length, true}
use Rattle.pack_defs.specs.declared.station.Station.{Station}
use Rattle.pack_defs.specs.Lists.{has_station, is_in}
use Rattle.pack_defs.specs.Scenario.{facilities}
use Rattle.pack_defs.specs.ClockRule.{round_order}
use Rattle.auction_core.specs.declared.clock.StationStatus.TheVariants.{Active}
use Rattle.auction_core.specs.declared.clock.StationStatus.{StationStatus}
use Rattle.freeze_ledger.specs.Ledger.{price_of}
use Rattle.auction_core.specs.Clock.{ClockView, answered_clock, is_status_on_air}
use Rattle.auction_core.specs.ClockRun.{ClockRunView, core_state, map_after, next_test}
use Rattle.auction_core.specs.ComponentLabels.{ComponentLabelsView, label_of, labelled, relabelled}
use Rattle.auction_core.specs.TestHistory.{TestHistoryView}
use Rattle.auction_core.specs.State.{delta_of, last_fit, shows_room}
use Rattle.auction_core.proofs.ClockLemmas.{active-is, facility_at, is_active_at, length-standings}
use Rattle.auction_core.proofs.ClockRunLemmas.{IsAt, next_clock_run, next_standing}
use Rattle.auction_core.proofs.ClockRunTests.{is-settled}
use Rattle.auction_core.proofs.KeptTestHistory.{HasNoted, fit-next, step-within}
use Rattle.auction_core.proofs.Paid.{active-unpaid}
use Rattle.auction_core.proofs.Sets.{step_of}
use Rattle.auction_core.proofs.clock_run.ClockRun.settle.Goals as goal

abbrev none : Station
none = record { id = 0; volume = 0; value = None }

pub settle-requires-clause-active : goal.settle-requires-clause-active
settle-requires-clause-active c =
    let s = c.args.setup.now in
    let old = c.args.self.now in
    let at : IsAt s old c.place-place.result = record { within = c.place-place.ensures.within; station = c.place-place.ensures.station ∙ ap (λ (z : ClockRunView). get_or (round_order s.scenario s.order) z.place_in_round 0) c.self.view_is } in
    ap (λ (z : ClockRunView). get_or z.clock.station_statuses c.place-place.result Active) c.self.view_is
    ∙ active-is (get_or old.clock.station_statuses c.place-place.result Active) (sym (is_active_at c.place-place.result (next_test s old).station Active c.requires.holds.clock.station_statuses at.within at.station) ∙ c.requires.due.active)

pub settle-requires-clause-unpaid : goal.settle-requires-clause-unpaid
settle-requires-clause-unpaid c =
    let s = c.args.setup.now in
    let old = c.args.self.now in
    let i : ℕ = c.place-place.result in
    let at : IsAt s old i = record { within = c.place-place.ensures.within; station = c.place-place.ensures.station ∙ ap (λ (z : ClockRunView). get_or (round_order s.scenario s.order) z.place_in_round 0) c.self.view_is } in
    (λ j. price_of (get_or (facilities (c.scenario-sc.ensures.value j)) i 0) (c.self.view_is j).clock.paid)
    ∙ (ap (λ f. price_of f old.clock.paid) at.station ∙ active-unpaid i (next_test s old).station c.requires.holds.clock at.within at.station c.requires.due.active)

pub take_if_on_air-requires-clause-within : goal.take_if_on_air-requires-clause-within
take_if_on_air-requires-clause-within c =
    let s = c.args.setup.now in
    let old = c.args.self.now in
    let i : ℕ = c.place-place.result in
    let view = c.self.view_is in
    let at : IsAt s old i = record { within = c.place-place.ensures.within; station = c.place-place.ensures.station ∙ ap (λ (z : ClockRunView). get_or (round_order s.scenario s.order) z.place_in_round 0) view } in
    let stations = c.as_slice.ensures ∙ ap (λ z. z.stations) c.scenario-sc.ensures.value in
    let own : (get_or c.as_slice.result.now i none).id ≡ (next_test s old).station = ap (λ xs. (get_or xs i none).id) stations ∙ (sym (facility_at s.scenario i none at.within) ∙ at.station) in
    let steps : c.note.new.self.steps ≡ old.test_history.steps ++ step_of (next_test s old) c.args.shown ∷ [] = ap (λ (z : TestHistoryView). z.steps) c.note.ensures.same
    ∙ (λ j. (view j).test_history.steps ++ record { round = (view j).round; station = own j; shown = c.args.shown } ∷ []) in
    let fit : last_fit c.note.new.self.steps (get_or c.as_slice.result.now i none).id [] ≡ delta_of old.test_history.steps (next_test s old).station c.args.shown = (λ j. last_fit (steps j) (own j) []) ∙ fit-next s old c.args.shown in
    let known : c.note.new.self.component_labels.stations ≡ facilities s.scenario = ap (λ (z : TestHistoryView). z.component_labels.stations) c.note.ensures.same ∙ (ap (λ (z : ClockRunView). z.test_history.component_labels.stations) view ∙ c.requires.holds.test_history.component_labels.stations) in
    let here : last_fit c.note.new.self.steps (get_or c.note.new.self.component_labels.stations i 0) [] ≡ last_fit c.note.new.self.steps (get_or c.as_slice.result.now i none).id [] = ap (λ f. last_fit c.note.new.self.steps f []) (ap (λ xs. get_or xs i 0) known ∙ (at.station ∙ sym own)) in
    let gives = step-within s.scenario s.book (core_state s old 0) (next_test s old) c.args.shown c.requires.shown_is c.requires.holds.test_history.fits in
    λ f there. subst (λ xs. is_in xs f ≡ true) (sym (ap (λ (z : ClockRunView). z.map.stations) view ∙ c.requires.holds.stations)) (gives f (subst (λ (m : List (ℕ × ℕ)). has_station m f ≡ true) (here ∙ fit) there))

pub returns-clause-settled : goal.returns-clause-settled
returns-clause-settled c =
    let s = c.args.setup.now in
    let old = c.args.self.now in
    let i : ℕ = c.place-place.result in
    let view = c.self.view_is in
    let at : IsAt s old i = record { within = c.place-place.ensures.within; station = c.place-place.ensures.station ∙ ap (λ (z : ClockRunView). get_or (round_order s.scenario s.order) z.place_in_round 0) view } in
    let stations = c.as_slice.ensures ∙ ap (λ z. z.stations) c.scenario-sc.ensures.value in
    let own : (get_or c.as_slice.result.now i none).id ≡ (next_test s old).station = ap (λ xs. (get_or xs i none).id) stations ∙ (sym (facility_at s.scenario i none at.within) ∙ at.station) in
    let standing : StationStatus = next_standing s old c.args.shown in
    let moved : c.settle.new.self ≡ answered_clock s.scenario (next_test s old) i (shows_room c.args.shown) old.clock = c.settle.ensures
    ∙ ((λ j. answered_clock (c.scenario-sc.ensures.value j) (record { round = (view j).round; station = get_or (facilities (c.scenario-sc.ensures.value j)) i 0 }) i (c.shows_room-fits.ensures j) (view j).clock)
    ∙ ap (λ f. answered_clock s.scenario (record { round = old.round; station = f }) i (shows_room c.args.shown) old.clock) at.station) in
    let inside : i < length old.clock.station_statuses = rw (length-standings c.requires.holds.clock.station_statuses) at.within in
    let here : get_or c.station_statuses.result.now i Active ≡ standing = ap (λ xs. get_or xs i Active) (c.station_statuses.ensures ∙ ap (λ (z : ClockView). z.station_statuses) moved) ∙ get_or-set_same old.clock.station_statuses i standing Active inside in
    let steps : c.note.new.self.steps ≡ old.test_history.steps ++ step_of (next_test s old) c.args.shown ∷ [] = ap (λ (z : TestHistoryView). z.steps) c.note.ensures.same
    ∙ (λ j. (view j).test_history.steps ++ record { round = (view j).round; station = own j; shown = c.args.shown } ∷ []) in
    let fit : last_fit c.note.new.self.steps (get_or c.as_slice.result.now i none).id [] ≡ delta_of old.test_history.steps (next_test s old).station c.args.shown = (λ j. last_fit (steps j) (own j) []) ∙ fit-next s old c.args.shown in
    let component_labels = ap (λ (z : TestHistoryView). z.component_labels) c.note.ensures.same ∙ ap (λ (z : ClockRunView). z.test_history.component_labels) view in
    let air = ap (λ (z : TestHistoryView). z.on_air) c.note.ensures.same ∙ ap (λ (z : ClockRunView). z.test_history.on_air) view in
    let noted : HasNoted s old c.args.shown i c.label_if_on_air.new.test_history = record {
      steps = ap (λ (z : TestHistoryView). z.steps) c.label_if_on_air.ensures.same ∙ steps;
      seen = ap (λ (z : TestHistoryView). z.seen) c.label_if_on_air.ensures.same ∙ (ap (λ (z : TestHistoryView). z.seen) c.note.ensures.same ∙ (λ j. set (view j).test_history.seen i (view j).test_history.on_air));
      stations = c.label_if_on_air.ensures.stations ∙ ap (λ (z : ComponentLabelsView). z.stations) component_labels;
      went = λ on.
          let w = c.label_if_on_air.ensures.went (ap is_status_on_air here ∙ on) in
          (w.0 ∙ ap (λ n. n + 1) air, λ z. w.1 z ∙ (λ j. relabelled (c.book.ensures j) (labelled (component_labels j)) (label_of (component_labels j)) (own j) (air j + 1) z));
      stood = λ off.
          let w = c.label_if_on_air.ensures.stood (ap is_status_on_air here ∙ off) in
          (w.0 ∙ air, w.1 ∙ component_labels);
    } in
    let known : c.note.new.self.component_labels.stations ≡ facilities s.scenario = ap (λ (z : TestHistoryView). z.component_labels.stations) c.note.ensures.same ∙ (ap (λ (z : ClockRunView). z.test_history.component_labels.stations) view ∙ c.requires.holds.test_history.component_labels.stations) in
    let given : last_fit c.note.new.self.steps (get_or c.note.new.self.component_labels.stations i 0) [] ≡ delta_of old.test_history.steps (next_test s old).station c.args.shown = ap (λ f. last_fit c.note.new.self.steps f []) (ap (λ xs. get_or xs i 0) known ∙ (at.station ∙ sym own)) ∙ fit in
    let map_is : c.take_if_on_air.new.map ≡ record { stations = old.map.stations; entries = map_after old.map.entries standing (delta_of old.test_history.steps (next_test s old).station c.args.shown) } = c.take_if_on_air.ensures
    ∙ (λ j. record { stations = (view j).map.stations; entries = map_after (view j).map.entries (here j) (given j) }) in
    let new : ClockRunView = record { start = c.self.inside.start; clock = c.settle.new.self; map = c.take_if_on_air.new.map; test_history = c.label_if_on_air.new.test_history; round = c.self.inside.round; place_in_round = c.self.inside.place_in_round + 1 } in
    let same : new ≡ next_clock_run s old c.args.shown i c.label_if_on_air.new.test_history = λ j. record {
      start = (view j).start;
      clock = moved j;
      map = map_is j;
      test_history = c.label_if_on_air.new.test_history;
      round = (view j).round;
      place_in_round = (view j).place_in_round + 1;
    } in
    is-settled s old new c.args.shown i c.label_if_on_air.new.test_history c.requires.holds.sound c.requires.running c.requires.holds c.requires.due at noted c.requires.shown_is same
