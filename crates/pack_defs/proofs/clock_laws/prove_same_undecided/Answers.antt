use Rattle.pack_defs.proofs.TestOrder.{same_undecided}
use Rattle.pack_defs.proofs.clock_laws.prove_same_undecided.Goals as goal

pub returns : goal.returns
returns c = same_undecided
