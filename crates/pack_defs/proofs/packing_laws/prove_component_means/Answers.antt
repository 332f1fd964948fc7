use Rattle.pack_defs.proofs.ComponentLaws.{component-gives, component-from}
use Rattle.pack_defs.proofs.packing_laws.prove_component_means.Goals as goal

pub returns : goal.returns
returns c = λ book set s t there. (component-gives book set s t, component-from book set s t there)
