use Rattle.std.proofs.Common.{◌≡◌, length}
use Rattle.constraint_files.specs.Records.{lines_of}
use Rattle.constraint_files.specs.PlainLines.{line_number_at}
use Rattle.constraint_files.proofs.plain_lines.line_at.Given as goal

abbrev pub invariant-loop-rest : goal.invariant-loop-rest
invariant-loop-rest l = line_number_at l.number l.before (lines_of l.rest) ≡ line_number_at l.fn.number l.fn.before (lines_of l.fn.bytes)

abbrev pub decreases-loop-rest : goal.decreases-loop-rest
decreases-loop-rest l = length l.rest
