use Rattle.std.proofs.Common.{◌≡◌, map, take}
use Rattle.pack_defs.specs.Scenario.{revalued}
use Rattle.threshold_laws.proofs.wins.with_value.Given as goal

abbrev pub invariant-loop-own : goal.invariant-loop-own
invariant-loop-own l = l.stations.items ≡ map (revalued l.station l.v) (take l.own-index l.before)
