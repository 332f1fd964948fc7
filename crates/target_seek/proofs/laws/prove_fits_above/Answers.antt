use Rattle.target_seek.proofs.AboveLemmas.{fits-above}
use Rattle.target_seek.proofs.laws.prove_fits_above.Goals as goal

pub returns : goal.returns
returns c = fits-above
