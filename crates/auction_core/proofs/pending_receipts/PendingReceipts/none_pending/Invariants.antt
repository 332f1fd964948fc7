-- One empty slot for each iteration.
use Rattle.std.proofs.Common.{◌≡◌, [], length}
use Rattle.auction_core.specs.PendingReceipts.{receipts_of}
use Rattle.auction_core.proofs.pending_receipts.PendingReceipts.none_pending.Given as goal

abbrev pub invariant-loop : goal.invariant-loop
invariant-loop l = (length l.places.items ≡ l.counter) × (receipts_of l.places.items ≡ [])
