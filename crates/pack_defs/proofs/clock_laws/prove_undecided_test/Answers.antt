use Rattle.pack_defs.proofs.TestOrder.{undecided_in_turn}
use Rattle.pack_defs.proofs.clock_laws.prove_undecided_test.Goals as goal

pub returns : goal.returns
returns c = undecided_in_turn
