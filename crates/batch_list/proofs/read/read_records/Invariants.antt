use Rattle.std.proofs.Common.{◌≡◌, ◌≤◌, ◌+◌, [], length}
use Rattle.constraint_files.specs.Records.{lines_of}
use Rattle.batch_list.specs.ListOf.{with_list_lines}
use Rattle.batch_list.proofs.read.read_records.Given as goal

abbrev pub invariant-loop-rest : goal.invariant-loop-rest
invariant-loop-rest l = record {
  lines : with_list_lines l.list.items l.number (lines_of l.rest) ≡ with_list_lines [] 1 (lines_of l.fn.bytes);
  few : l.number + length l.rest ≤ length l.fn.bytes + 1;
}

abbrev pub decreases-loop-rest : goal.decreases-loop-rest
decreases-loop-rest l = length l.rest
