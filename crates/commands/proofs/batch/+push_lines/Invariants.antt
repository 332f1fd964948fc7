use Rattle.std.proofs.Common.{length}
use Rattle.commands.proofs.batch.+push_lines.Given as goal

-- Each call has one line fewer.
abbrev pub decreases-push_lines : goal.decreases-push_lines
decreases-push_lines l = length l.lines.now
