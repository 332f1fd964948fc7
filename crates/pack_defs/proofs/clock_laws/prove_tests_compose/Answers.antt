use Rattle.pack_defs.proofs.TestOrder.{in_turn}
use Rattle.pack_defs.proofs.clock_laws.prove_tests_compose.Goals as goal

pub returns : goal.returns
returns c = in_turn
