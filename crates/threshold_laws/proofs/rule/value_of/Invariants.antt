use Rattle.std.proofs.Common.{◌≡◌, drop}
use Rattle.pack_defs.specs.Scenario.{value_in}
use Rattle.threshold_laws.proofs.rule.value_of.Given as goal

abbrev pub invariant-loop-x : goal.invariant-loop-x
invariant-loop-x l = value_in (drop l.x-index l.stations) l.station ≡ value_in l.stations l.station
