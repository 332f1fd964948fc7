use Rattle.std.proofs.Common.{◌≡◌, ◌≤◌, ◌+◌, length}
use Rattle.constraint_files.specs.Records.{lines_of}
use Rattle.owner_line.specs.OwnersOf.{owners_of, with_file_lines}
use Rattle.owner_line.proofs.read.read_owners.Given as goal

abbrev pub invariant-loop-rest : goal.invariant-loop-rest
invariant-loop-rest l = record {
  lines : with_file_lines l.rounds l.ids l.owners l.number (lines_of l.rest) ≡ owners_of l.fn.bytes l.fn.rounds l.fn.ids;
  few : l.number + length l.rest ≤ length l.fn.bytes + 1;
}

abbrev pub decreases-loop-rest : goal.decreases-loop-rest
decreases-loop-rest l = length l.rest
