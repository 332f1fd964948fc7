use Rattle.std.proofs.Common.{◌≡◌, ◌≤◌, length, take}
use Rattle.constraint_files.specs.Records.{is_blank, without_trailing}
use Rattle.constraint_files.proofs.record.without_trailing.Given as goal

abbrev pub invariant-loop-end : goal.invariant-loop-end
invariant-loop-end l = record {
  fits : l.end ≤ length l.field;
  kept : without_trailing is_blank l.field ≡ without_trailing is_blank (take l.end l.field);
}

abbrev pub decreases-loop-end : goal.decreases-loop-end
decreases-loop-end l = l.end
