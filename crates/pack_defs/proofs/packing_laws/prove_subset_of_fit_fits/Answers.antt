use Rattle.pack_defs.proofs.FitsLaws.{part_fits_test}
use Rattle.pack_defs.proofs.packing_laws.prove_subset_of_fit_fits.Goals as goal

pub returns : goal.returns
returns c = λ book set part within fit. part_fits_test book set part within fit
