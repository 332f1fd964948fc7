use Rattle.pack_defs.proofs.ComponentLaws.{test_by_component}
use Rattle.pack_defs.proofs.clock_laws.prove_component_decides_test.Goals as goal

pub returns : goal.returns
returns c = test_by_component
