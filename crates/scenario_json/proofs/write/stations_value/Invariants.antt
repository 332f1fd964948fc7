use Rattle.std.proofs.Common.{◌≡◌, map, take}
use Rattle.serde_json.specs.View.{view}
use Rattle.scenario_json.specs.Write.{station_for}
use Rattle.scenario_json.proofs.write.stations_value.Given as goal

abbrev pub invariant-loop-station : goal.invariant-loop-station
invariant-loop-station l = map view l.items.items ≡ map station_for (take l.station-index l.stations)
