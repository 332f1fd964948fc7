use Rattle.auction_core.proofs.Before.{same-iff}
use Rattle.auction_core.proofs.label_laws.prove_same_means.Goals as goal

pub returns : goal.returns
returns c sc book was now s a known later = same-iff sc book was now s a known later
