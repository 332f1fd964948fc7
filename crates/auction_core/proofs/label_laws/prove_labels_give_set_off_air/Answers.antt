use Rattle.auction_core.proofs.Touched.{touched-tested}
use Rattle.auction_core.proofs.label_laws.prove_labels_give_set_off_air.Goals as goal

pub returns : goal.returns
returns c = touched-tested
