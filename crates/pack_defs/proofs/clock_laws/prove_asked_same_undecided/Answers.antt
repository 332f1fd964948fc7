use Rattle.pack_defs.proofs.TestOrder.{asked_same_undecided}
use Rattle.pack_defs.proofs.clock_laws.prove_asked_same_undecided.Goals as goal

pub returns : goal.returns
returns c = asked_same_undecided
