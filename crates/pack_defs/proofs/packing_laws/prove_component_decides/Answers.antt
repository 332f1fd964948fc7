use Rattle.pack_defs.proofs.ComponentLaws.{component_decides}
use Rattle.pack_defs.proofs.packing_laws.prove_component_decides.Goals as goal

pub returns : goal.returns
returns c = component_decides
