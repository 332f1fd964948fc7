use Rattle.std.proofs.Common.{◌≡◌, ◌≤◌, length, map, take}
use Rattle.csv.specs.Records.{fields_of}
use Rattle.pack_defs.specs.Lists.{is_empty}
use Rattle.constraint_files.specs.Records.{kept_fields, trimmed, without_trailing}
use Rattle.constraint_files.proofs.record.count_kept.Given as goal

abbrev pub invariant-loop-kept : goal.invariant-loop-kept
invariant-loop-kept l = record {
  fits : l.kept ≤ length (fields_of l.row);
  kept : kept_fields (fields_of l.row) ≡ without_trailing is_empty (take l.kept (map trimmed (fields_of l.row)));
}

abbrev pub decreases-loop-kept : goal.decreases-loop-kept
decreases-loop-kept l = l.kept
