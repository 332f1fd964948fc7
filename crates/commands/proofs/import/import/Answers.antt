-- Each ending: the transcript is invalid, or a step of its record is settled, from the state before.
use Rattle.commands.specs.Ends.ImportEnds.{NothingShown}
use Rattle.command_words.specs.Words.{import_view}
use Rattle.commands.proofs.ImportEndLemmas.{import-since}
use Rattle.commands.proofs.import.import.Goals as goal

pub returns-in-Err-clause-ends : goal.returns-in-Err-clause-ends
returns-in-Err-clause-ends g c = NothingShown c.in-Err.ensures.ends c.in-Err.ensures.none

pub returns-in-Ok-clause-ends : goal.returns-in-Ok-clause-ends
returns-in-Ok-clause-ends g c = import-since (import_view c.args.files.now) _ _ _ _ _ c.in-Ok.ensures.same c.settle.ensures.ends
