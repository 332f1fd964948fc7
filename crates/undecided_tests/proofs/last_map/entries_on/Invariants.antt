use Rattle.std.proofs.Common.{◌≡◌, ◌++◌, drop}
use Rattle.undecided_tests.specs.StepReplay.{entries_of_stations}
use Rattle.undecided_tests.proofs.last_map.entries_on.Given as goal

abbrev pub invariant-loop-station : goal.invariant-loop-station
invariant-loop-station l = l.entries.items ++ entries_of_stations l.map.entries (drop l.station-index l.set) ≡ entries_of_stations l.map.entries l.fn.set
