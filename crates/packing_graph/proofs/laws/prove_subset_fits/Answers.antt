use Rattle.pack_defs.proofs.FitsLaws.{part_fits}
use Rattle.packing_graph.proofs.laws.prove_subset_fits.Goals as goal

pub returns : goal.returns
returns c = λ book set part within fit. part_fits book set part within fit
