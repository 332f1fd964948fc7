-- By the lemma on a search for a place.
use Rattle.auction_core.proofs.Placed.{place-found}
use Rattle.auction_core.proofs.air_map.place_of.Goals as goal

pub returns : goal.returns
returns c =
    rw c.ok.ensures.value (place-found c.args.stations.now c.args.station c.binary_search.result c.binary_search.ensures.bound c.binary_search.ensures.position c.requires)
