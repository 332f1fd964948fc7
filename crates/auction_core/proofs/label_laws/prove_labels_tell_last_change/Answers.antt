use Rattle.auction_core.proofs.Tied.{all-before}
use Rattle.auction_core.proofs.label_laws.prove_labels_tell_last_change.Goals as goal

pub returns : goal.returns
returns c book on all since label s time p w = all-before book on since label p all s w time
