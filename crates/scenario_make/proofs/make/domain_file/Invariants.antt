use Rattle.std.proofs.Common.{◌≡◌, ◌≤◌}
use Rattle.std.specs.List.{flat_map, range_with_len}
use Rattle.scenario_make.specs.GeneratedFiles.{generated_domain_line}
use Rattle.scenario_make.proofs.make.domain_file.Given as goal

abbrev pub invariant-loop-i : goal.invariant-loop-i
invariant-loop-i l = record {
  within : l.i ≤ l.size;
  written : l.text.items ≡ flat_map generated_domain_line (range_with_len 1 l.i);
}
