use Rattle.pack_defs.proofs.TestOrder.{asked_in_turn}
use Rattle.pack_defs.proofs.clock_laws.prove_asked_tests_compose.Goals as goal

pub returns : goal.returns
returns c = asked_in_turn
