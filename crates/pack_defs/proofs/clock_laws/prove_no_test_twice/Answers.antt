use Rattle.pack_defs.proofs.TestOrder.{no_test_twice}
use Rattle.pack_defs.proofs.clock_laws.prove_no_test_twice.Goals as goal

pub returns : goal.returns
returns c = no_test_twice
