-- The book is of the scenario's stations.
use Rattle.commands.proofs.ReadingLemmas.{joined-stations}
use Rattle.commands.proofs.make.inputs_in.Goals as goal

pub returns-clause-stations : goal.returns-clause-stations
returns-clause-stations c = joined-stations c.in-Ok-read_scenario.scenario _ _ c.in-Ok-join.book c.in-Ok-join.ensures
