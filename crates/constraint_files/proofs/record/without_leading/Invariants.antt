use Rattle.std.proofs.Common.{◌≡◌, drop}
use Rattle.constraint_files.specs.Records.{is_blank, without_leading}
use Rattle.constraint_files.proofs.record.without_leading.Given as goal

abbrev pub invariant-loop-i : goal.invariant-loop-i
invariant-loop-i l = without_leading is_blank l.field ≡ without_leading is_blank (drop l.i l.field)
