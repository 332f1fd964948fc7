use Rattle.std.proofs.Common.{All, take}
use Rattle.scenario_json.specs.Write.{IsFileNumber}
use Rattle.scenario_json.proofs.write.keeps_file_numbers.Given as goal

abbrev pub invariant-loop-station : goal.invariant-loop-station
invariant-loop-station l = All IsFileNumber (take l.station-index l.stations)
