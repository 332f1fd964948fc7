use Rattle.std.proofs.Common.{◌≡◌, ◌≤◌, ◌+◌, ◌-◌, ◌∷◌, [], ◌++◌}
use Rattle.std.specs.Prelude.{codes}
use Rattle.std.specs.List.{flat_map, range_with_len}
use Rattle.scenario_make.specs.GeneratedFiles.{key_line}
use Rattle.scenario_make.proofs.rows.push_adjacent_lines.Given as goal

abbrev pub invariant-loop-c : goal.invariant-loop-c
invariant-loop-c l = record {
  least : 14 ≤ l.c;
  within : l.c ≤ 17;
  written : l.text.items ≡ l.initial.text.items ++ flat_map (λ c. key_line (codes "ADJ+1") (c ∷ (c + 1) ∷ l.station ∷ (l.station + 1) ∷ [])) (range_with_len 14 (l.c - 14));
}
