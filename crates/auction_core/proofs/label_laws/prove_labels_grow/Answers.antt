use Rattle.auction_core.proofs.Tied.{relabelled-parts}
use Rattle.auction_core.proofs.label_laws.prove_labels_grow.Goals as goal

pub returns : goal.returns
returns c book on all since more label s n p w before is later = relabelled-parts book on since label p all s w n more before is later
