-- The standings determine the stations on air, and these determine the test's set.
use Rattle.std.proofs.Common.{◌≡◌, ◌∙◌, map}
use Rattle.std.proofs.lemmas.Result.{IfOk-weaker}
use Rattle.pack_defs.proofs.Words.{ascending-from}
use Rattle.pack_defs.specs.declared.station.Station.{Station}
use Rattle.pack_defs.specs.Components.{component}
use Rattle.pack_defs.specs.Scenario.{facilities}
use Rattle.packing_graph.specs.Sets.{with_station}
use Rattle.auction_core.specs.Clock.{on_air_by}
use Rattle.transcript_text.proofs.OnAirLemmas.{on_air-ascend}
use Rattle.transcript_text.proofs.TestSets.{found-set}
use Rattle.transcript_text.proofs.test_set.test_set.Goals as goal

pub invariant_of-on_air : goal.invariant_of-on_air
invariant_of-on_air c = record {
  ascending = rw c.as_slice.ensures (ascending-from (facilities c.args.sc.now) c.requires.ascend);
  each = rw (c.as_slice.ensures, c.station_statuses.ensures) c.requires.stations;
}

pub component_among-requires : goal.component_among-requires
component_among-requires c =
    on_air-ascend (map (λ (x : Station). x.id) c.as_slice.result.now) c.station_statuses.result.now (rw c.as_slice.ensures (ascending-from (facilities c.args.sc.now) c.requires.ascend))

pub returns-clause-set : goal.returns-clause-set
returns-clause-set c =
    let sc = c.args.sc.now in
    let book = c.args.book.now in
    let station_statuses = c.args.clock.now.station_statuses in
    let station = c.args.station in
    let same : component book (with_station (on_air_by (map (λ (x : Station). x.id) c.as_slice.result.now) c.station_statuses.result.now) station) station ≡ component book (with_station (on_air_by (facilities sc) station_statuses) station) station =
    λ i. component book (with_station (on_air_by (map (λ (x : Station). x.id) (c.as_slice.ensures i)) (c.station_statuses.ensures i)) station) station in
    IfOk-weaker c.component_among.result _ _ (λ set is. found-set sc book station_statuses station set.items c.requires.ascend c.requires.known (is ∙ same)) c.component_among.ensures.component
