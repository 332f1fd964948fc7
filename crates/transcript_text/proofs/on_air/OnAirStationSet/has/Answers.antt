-- The standing at a station's place is whether the station is on air.
use Rattle.std.proofs.Common.{◌∙◌, arith, ℕ, map, sym, rules}
use Rattle.std.proofs.lemmas.List.{length-map}
use Rattle.std.proofs.lemmas.List.Sorted.{answers_always}
use Rattle.pack_defs.proofs.Searches.{found-at, found-no_key}
use Rattle.pack_defs.specs.declared.station.Station.{Station}
use Rattle.auction_core.specs.declared.clock.StationStatus.TheVariants.{Active}
use Rattle.transcript_text.proofs.OnAirLemmas.{on_air-at, on_air-none}
use Rattle.transcript_text.proofs.on_air.OnAirStationSet.has.Goals as goal

abbrev id_of : Station → ℕ
id_of x = x.id

pub returns-in-Ok : goal.returns-in-Ok
returns-in-Ok c =
    let own = c.args.self.now in
    let long = length-map own.stations.now id_of in
    let each = own.each in
    let inside = c.in-Ok.ensures.bound in
    let by_id = c.in-Ok.ensures.position id_of (answers_always _ _ _ (λ f a r g called. search rules)) in
    let at = found-at id_of own.stations.now c.args.station c.in-Ok.i inside by_id in
    c.is_on_air.ensures ∙ sym (on_air-at (map id_of own.stations.now) own.station_statuses.now c.in-Ok.i c.args.station Active own.ascending (omega (arith, long, each)) (omega (arith, long, inside)) at)

pub returns-in-Err : goal.returns-in-Err
returns-in-Err c =
    let own = c.args.self.now in
    let by_id = c.in-Err.ensures.position id_of (answers_always _ _ _ (λ f a r g called. search rules)) in
    sym (on_air-none (map id_of own.stations.now) own.station_statuses.now c.args.station (found-no_key id_of own.stations.now c.args.station _ c.in-Err.ensures.bound by_id own.ascending))
