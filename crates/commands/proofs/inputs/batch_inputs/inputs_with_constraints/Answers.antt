-- The book is of the scenario's stations.
use Rattle.commands.proofs.ReadingLemmas.{joined-stations}
use Rattle.commands.proofs.inputs.batch_inputs.inputs_with_constraints.Goals as goal

pub returns-in-Ok-clause-stations : goal.returns-in-Ok-clause-stations
returns-in-Ok-clause-stations g c = joined-stations c.in_ok-scenario.scenario _ _ c.in-Ok.book c.in-Ok.ensures
