-- The closure returns a station's number.
use Rattle.std.proofs.Common.{rules}
use Rattle.std.proofs.lemmas.List.Sorted.{answers_always}
use Rattle.pack_defs.specs.declared.station.Station.{Station}
use Rattle.auction_core.proofs.Places.{place-found}
use Rattle.auction_core.proofs.station_list.place_of.Goals as goal

pub returns : goal.returns
returns c =
    let facts = c.binary_search_by_key.ensures in
    let by_number = facts.position (λ (x : Station). x.id) (answers_always _ _ _ (λ f a r g called. search rules)) in
    rw c.ok.ensures.value (place-found c.args.stations.now c.requires c.args.station c.binary_search_by_key.result facts.bound by_number)
