use Rattle.std.proofs.Common.{◌≡◌, ◌≤◌, ◌-◌}
use Rattle.std.specs.List.{flat_map, range_with_len}
use Rattle.scenario_make.specs.GeneratedFiles.{behind_links, block_end, generated_rows_at}
use Rattle.scenario_make.proofs.rows.draw_rows.Given as goal

abbrev pub invariant-loop-i : goal.invariant-loop-i
invariant-loop-i l = record {
  within : l.i ≤ l.size;
  written : l.text.items ≡ flat_map (λ s. generated_rows_at (behind_links l.fn.words l.size (s - 1)) s (block_end l.size s)) (range_with_len 1 l.i);
  next : l.words ≡ behind_links l.fn.words l.size l.i;
}
