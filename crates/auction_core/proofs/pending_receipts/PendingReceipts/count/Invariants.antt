-- The count and the receipts in the remaining slots are all.
use Rattle.std.proofs.Common.{◌≡◌, ◌+◌, drop}
use Rattle.auction_core.proofs.PendingReceiptLemmas.{how_many}
use Rattle.auction_core.proofs.pending_receipts.PendingReceipts.count.Given as goal

abbrev pub invariant-loop-place : goal.invariant-loop-place
invariant-loop-place l = (l.count + how_many (drop l.place-index l.place-items) ≡ how_many l.place-items)
