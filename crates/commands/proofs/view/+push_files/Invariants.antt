-- Each call has one text fewer.
use Rattle.std.proofs.Common.{length}
use Rattle.commands.proofs.view.+push_files.Given as goal

abbrev pub decreases-push_files : goal.decreases-push_files
decreases-push_files l = length l.texts.now
