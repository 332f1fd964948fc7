-- The book is of the scenario's stations.
use Rattle.commands.proofs.ReadingLemmas.{joined-stations}
use Rattle.commands.proofs.inputs.sources.book_of.Goals as goal

pub returns-in-Ok-clause-stations : goal.returns-in-Ok-clause-stations
returns-in-Ok-clause-stations c = joined-stations c.args.sources.now.scenario _ _ c.in-Ok.book c.in-Ok.ensures
