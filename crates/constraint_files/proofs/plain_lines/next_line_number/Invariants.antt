use Rattle.std.proofs.Common.{◌≡◌, ◌+◌, length}
use Rattle.constraint_files.specs.Records.{lines_of}
use Rattle.constraint_files.proofs.plain_lines.next_line_number.Given as goal

abbrev pub invariant-loop-rest : goal.invariant-loop-rest
invariant-loop-rest l = l.number + length (lines_of l.rest) ≡ l.fn.number + length (lines_of l.fn.bytes)

abbrev pub decreases-loop-rest : goal.decreases-loop-rest
decreases-loop-rest l = length l.rest
