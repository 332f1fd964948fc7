use Rattle.std.proofs.Common.{◌≡◌, ◌+◌, [], drop, map}
use Rattle.serde_json.specs.View.{view}
use Rattle.scenario_json.specs.ScenarioOf.{stations_from}
use Rattle.scenario_json.proofs.stations.stations_from.Given as goal

abbrev pub invariant-loop-i : goal.invariant-loop-i
invariant-loop-i l =
    stations_from l.roster (l.i + 1) (map view (drop l.i l.items)) ≡ stations_from [] 1 (map view l.items)
