-- The slots before this one are empty, their receipts are in the list, and the list has room for the others.
use Rattle.std.proofs.Common.{◌≡◌, ◌≤◌, ◌+◌, ◌-◌, [], ◌++◌, length, vec_len, vec_capacity}
use Rattle.auction_core.proofs.Emptied.{emptied, first_receipts}
use Rattle.auction_core.proofs.pending_receipts.PendingReceipts.move_into.Given as goal

abbrev pub invariant-loop-i : goal.invariant-loop-i
invariant-loop-i l =
    (l.self-inside.places.items ≡ emptied l.i l.initial.self-inside.places.items)
    × (l.receipts.items ≡ l.initial.receipts.items ++ first_receipts l.i l.initial.self-inside.places.items)
    × (vec_len l.receipts + (length l.initial.self-inside.places.items - l.i) ≤ vec_capacity l.receipts)
    × (l.i-end ≡ length l.initial.self-inside.places.items)
    × (l.self-inside.all.items ≡ [])
