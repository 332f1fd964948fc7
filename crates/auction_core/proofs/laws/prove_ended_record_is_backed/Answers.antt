-- By the invariant of the induction.
use Rattle.auction_core.proofs.Kept.{rule-kept}
use Rattle.auction_core.proofs.Ended.{ended-backed}
use Rattle.auction_core.proofs.laws.prove_ended_record_is_backed.Goals as goal

pub returns : goal.returns
returns c sc book state h e = ended-backed sc book state (rule-kept sc book state h) e
