-- By the lemma on one more slot.
use Rattle.std.proofs.Common.{rules, ap, ◌∙◌}
use Rattle.auction_core.specs.PendingReceipts.{receipts_of}
use Rattle.auction_core.proofs.PendingReceiptLemmas.{place-more}
use Rattle.auction_core.proofs.pending_receipts.PendingReceipts.none_pending.Goals as goal

pub loop-preserved : goal.loop-preserved
loop-preserved c =
    (search rules, ap receipts_of c.in_ok-push.ensures.items ∙ place-more 0 c.loop.places.items ∙ c.loop.invariant.1)
