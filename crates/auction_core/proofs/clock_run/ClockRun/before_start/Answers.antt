-- The clock run before the start test.
use Rattle.std.proofs.Common.{◌≡◌, ◌∙◌, None, [], ap, sym, subst, map}
use Rattle.pack_defs.specs.declared.station.Station.{Station}
use Rattle.pack_defs.specs.Scenario.{facilities}
use Rattle.pack_defs.specs.ClockRule.{opening_state}
use Rattle.auction_core.specs.AirMap.{AirMapView}
use Rattle.auction_core.specs.Clock.{IsClockOf}
use Rattle.auction_core.specs.ClockRun.{ClockRunView, IsClockRun}
use Rattle.auction_core.specs.TestHistory.{TestHistoryView}
use Rattle.auction_core.proofs.ClockRunStart.{IsFirstTestHistory, first-holds, opening_clock_run}
use Rattle.auction_core.proofs.clock_run.ClockRun.before_start.Goals as goal

pub returns-clause-holds : goal.returns-clause-holds
returns-clause-holds c =
    let s = c.args.setup.now in
    let sc = s.scenario in
    let stations = c.as_slice-stations.ensures ∙ ap (λ z. z.stations) c.scenario-sc.ensures.value in
    let first = c.in_ok-test_history.ensures in
    let test_history : TestHistoryView = c.in_ok-test_history.test_history in
    let kept : IsFirstTestHistory s test_history = record { component_labels = first.component_labels; on_air = first.on_air; long = first.long; seen = first.seen; steps = first.steps } in
    let places : c.in_ok-none.field-0 ≡ record { stations = facilities sc; entries = [] } = c.in_ok-none.ensures ∙ ap (λ xs. (let m : AirMapView = record { stations = map (λ (x : Station). x.id) xs; entries = [] } in m)) stations in
    let clock_run : ClockRunView = record { start = None; clock = record { station_statuses = c.clock.inside.station_statuses.items; paid = c.clock.inside.ledger.paid }; map = c.in_ok-none.field-0; test_history = test_history; round = 1; place_in_round = 0 } in
    let same : clock_run ≡ opening_clock_run sc c.in_ok-clock.clock test_history = λ j. record { start = None; clock = c.clock.view_is j; map = places j; test_history = test_history; round = 1; place_in_round = 0 } in
    subst (IsClockRun s) (sym same) (first-holds s c.in_ok-clock.clock test_history c.scenario-sc.ensures.sound (subst (λ z. IsClockOf z (opening_state z) c.in_ok-clock.clock) c.scenario-sc.ensures.value c.in_ok-clock.ensures) kept)
