use Rattle.std.proofs.Common.{length}
use Rattle.commands.proofs.batch.+deliver.Given as goal

-- Each call has one line fewer.
abbrev pub decreases-deliver : goal.decreases-deliver
decreases-deliver g l = length l.lines.now
