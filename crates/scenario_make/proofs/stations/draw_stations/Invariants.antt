use Rattle.std.proofs.Common.{◌≡◌, ◌≤◌, ◌*◌, map}
use Rattle.std.specs.List.{range_with_len}
use Rattle.scenario_make.specs.Draws.{generator_after}
use Rattle.scenario_make.specs.GeneratedFiles.{generated_station}
use Rattle.scenario_make.proofs.stations.draw_stations.Given as goal

abbrev pub invariant-loop-i : goal.invariant-loop-i
invariant-loop-i l = record {
  within : l.i ≤ l.size;
  drawn : l.stations.items ≡ map (generated_station l.fn.words) (range_with_len 1 l.i);
  next : l.words ≡ generator_after l.fn.words (2 * l.i);
}
