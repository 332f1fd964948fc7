-- By the walk over its steps.
use Rattle.auction_core.proofs.Done.{done-map}
use Rattle.auction_core.proofs.laws.prove_done_record_is_clean.Goals as goal

pub returns : goal.returns
returns c sc book order rec a b e = done-map sc book order rec a b e
