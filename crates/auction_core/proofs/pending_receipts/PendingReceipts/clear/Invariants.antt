-- The slots before this one are empty, and the list of receipts is unused.
use Rattle.std.proofs.Common.{◌≡◌, [], length}
use Rattle.auction_core.proofs.Emptied.{emptied}
use Rattle.auction_core.proofs.pending_receipts.PendingReceipts.clear.Given as goal

abbrev pub invariant-loop-i : goal.invariant-loop-i
invariant-loop-i l =
    (l.self-inside.places.items ≡ emptied l.i l.initial.self-inside.places.items)
    × (l.workers ≡ length l.initial.self-inside.places.items)
    × (l.self-inside.all.items ≡ [])
