use Rattle.std.proofs.Common.{◌≡◌, ◌≤◌, ◌+◌, ◌-◌, ◌==◌, filter}
use Rattle.std.specs.List.{range_with_len}
use Rattle.scenario_make.specs.Draws.{draw_at, generator_after}
use Rattle.scenario_make.proofs.rows.draw_links.Given as goal

abbrev pub invariant-loop-i : goal.invariant-loop-i
invariant-loop-i l = record {
  within : l.i ≤ l.end - l.station;
  drawn : l.links.items ≡ filter (λ t. draw_at l.fn.words (t - (l.station + 1)) 2 == 1) (range_with_len (l.station + 1) l.i);
  next : l.words ≡ generator_after l.fn.words l.i;
}
