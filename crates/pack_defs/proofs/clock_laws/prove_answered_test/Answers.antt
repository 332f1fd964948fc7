use Rattle.pack_defs.proofs.TestOrder.{answered_in_turn}
use Rattle.pack_defs.proofs.clock_laws.prove_answered_test.Goals as goal

pub returns : goal.returns
returns c = answered_in_turn
