-- The query of the next test, field by field.
use Rattle.std.proofs.Common.{◌≡◌, ◌∙◌, ap, sym, Some}
use Rattle.auction_core.specs.AirMap.{AirMapView}
use Rattle.auction_core.specs.QuerySession.{QuerySessionView}
use Rattle.auction_core.specs.ClockRun.{clock_of, next_test}
use Rattle.auction_core.specs.ComponentLabels.{ComponentLabelsView, touched_set}
use Rattle.auction_core.specs.TestHistory.{TestHistoryView}
use Rattle.auction_core.specs.State.{restricted, task_of, tested_set}
use Rattle.auction_core.proofs.TaskLemmas.{labels-most, query-set, some-start, standing-query, task-test}
use Rattle.auction_core.proofs.query_session.QuerySession.test_task.Goals as goal

pub station-station-requires : goal.station-station-requires
station-station-requires c =
    let own = c.self.inside in
    let begun = some-start own.clock_run.start (λ e. c.requires.started (sym (ap (λ (v : QuerySessionView). v.state.start) c.self.view_is) ∙ e)) in
    (standing-query own.setup own.clock_run own.number _ c.self.invariant (ap (λ (v : QuerySessionView). v.state) c.self.view_is) begun c.requires.standing).due

pub touched_stations_on-requires-clause-most : goal.touched_stations_on-requires-clause-most
touched_stations_on-requires-clause-most c z =
    let own = c.self.inside in
    let component_labels : c.component_labels.result.now ≡ own.clock_run.test_history.component_labels = c.component_labels.ensures ∙ ap (λ (p : TestHistoryView). p.component_labels) c.test_history-test_history.ensures in
    let on_air : c.on_air.result ≡ own.clock_run.test_history.on_air = c.on_air.ensures ∙ ap (λ (p : TestHistoryView). p.on_air) c.test_history-test_history.ensures in
    rw (component_labels, on_air) (labels-most own.setup own.clock_run c.self.invariant.clock_run z)

pub touched_stations_on-requires-clause-stations : goal.touched_stations_on-requires-clause-stations
touched_stations_on-requires-clause-stations c =
    let own = c.self.inside in
    let holds = c.self.invariant.clock_run in
    let component_labels : c.component_labels.result.now ≡ own.clock_run.test_history.component_labels = c.component_labels.ensures ∙ ap (λ (p : TestHistoryView). p.component_labels) c.test_history-test_history.ensures in
    ap (λ (m : AirMapView). m.stations) c.map.ensures ∙ (holds.stations ∙ sym (ap (λ (p : ComponentLabelsView). p.stations) component_labels ∙ holds.test_history.component_labels.stations))

pub returns : goal.returns
returns c =
    let own = c.self.inside in
    let s = own.setup in
    let clock_run = own.clock_run in
    let holds = c.self.invariant.clock_run in
    let begun = some-start clock_run.start (λ e. c.requires.started (sym (ap (λ (v : QuerySessionView). v.state.start) c.self.view_is) ∙ e)) in
    let query = standing-query s clock_run own.number _ c.self.invariant (ap (λ (v : QuerySessionView). v.state) c.self.view_is) begun c.requires.standing in
    let t = next_test s clock_run in
    let station : c.station-station.result ≡ t.station = c.station-station.ensures in
    let component_labels : c.component_labels.result.now ≡ clock_run.test_history.component_labels = c.component_labels.ensures ∙ ap (λ (p : TestHistoryView). p.component_labels) c.test_history-test_history.ensures in
    let asked : touched_set c.book.result.now c.component_labels.result.now c.station-station.result ≡ tested_set s.scenario s.book (clock_of s clock_run) t.station = (λ i. touched_set (c.book.ensures i) (component_labels i) (station i)) ∙ query-set s clock_run holds query in
    let set : c.in_ok-set.set.items ≡ tested_set s.scenario s.book (clock_of s clock_run) t.station = c.in_ok-set.ensures.set ∙ asked in
    let last : c.in_ok-set.last ≡ restricted clock_run.map.entries (tested_set s.scenario s.book (clock_of s clock_run) t.station) = c.in_ok-set.ensures.last ∙ (λ i. restricted (c.map.ensures i).entries (asked i)) in
    (λ i. Some (record { number = own.number; round = c.round.ensures i; station = Some (station i); set = (c.from_vec.ensures ∙ set) i; last = last i }))
    ∙ (task-test s clock_run own.number holds query ∙ ap (λ (v : QuerySessionView). task_of v.scenario v.book v.state) c.self.view_is)
