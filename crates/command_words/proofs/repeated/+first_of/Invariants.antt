-- Each call has one name less.
use Rattle.std.proofs.Common.{length}
use Rattle.command_words.proofs.repeated.+first_of.Given as goal

abbrev pub decreases-first_of : goal.decreases-first_of
decreases-first_of l = length l.names.now
