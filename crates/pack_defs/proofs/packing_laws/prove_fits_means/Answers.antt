use Rattle.pack_defs.proofs.FitsLaws.{fits-gives, fits-from}
use Rattle.pack_defs.proofs.packing_laws.prove_fits_means.Goals as goal

pub returns : goal.returns
returns c = λ book set. (fits-gives book set, fits-from book set)
