use Rattle.auction_core.proofs.Tied.{part-of}
use Rattle.auction_core.proofs.label_laws.prove_labels_give_set.Goals as goal

pub returns : goal.returns
returns c book on all since label s z p w = part-of book on since label p all s w z
