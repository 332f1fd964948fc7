-- The numbers of the stations so far.
use Rattle.std.proofs.Common.{◌≡◌, map, take}
use Rattle.auction_core.proofs.air_map.ids.Given as goal

abbrev pub invariant-loop-station : goal.invariant-loop-station
invariant-loop-station l = l.ids.items ≡ map (λ x. x.id) (take l.station-index l.stations)
