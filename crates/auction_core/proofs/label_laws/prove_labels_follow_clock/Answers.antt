use Rattle.auction_core.proofs.Since.{joined-parts}
use Rattle.auction_core.proofs.label_laws.prove_labels_follow_clock.Goals as goal

pub returns : goal.returns
returns c = joined-parts
