use Rattle.std.proofs.Common.{length}
use Rattle.commands.proofs.messages.+write_parts.Given as goal

-- Each call has one part fewer.
abbrev pub decreases-write_parts : goal.decreases-write_parts
decreases-write_parts g l = length l.parts.now
