use Rattle.auction_core.proofs.Since.{same-so-far}
use Rattle.auction_core.proofs.label_laws.prove_same_by_labels.Goals as goal

pub returns : goal.returns
returns c = same-so-far
