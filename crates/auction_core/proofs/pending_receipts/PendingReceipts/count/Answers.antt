-- By the lemmas on one more slot, full or empty.
use Rattle.std.proofs.Common.{rules, length, ap, ◌∙◌, arith}
use Rattle.auction_core.specs.PendingReceipts.{receipts_of}
use Rattle.auction_core.proofs.PendingReceiptLemmas.{many-bound, one-more, all-counted}
use Rattle.auction_core.proofs.pending_receipts.PendingReceipts.count.Goals as goal

pub overflow_add-count : goal.overflow_add-count
overflow_add-count c =
    let most = many-bound c.deref-place-items.result.now in
    let long = c.deref-place-items.type_inv.0 in
    let sum = c.loop-place.invariant in
    let less = one-more c.loop-place.place-index c.deref-place-items.result.now c.place-item.result (search rules) (search rules) in
    omega (arith)

pub returns : goal.returns
returns c =
    all-counted c.loop-place.place-index c.loop-place.count c.deref-place-items.result.now (search rules) c.loop-place.invariant
    ∙ (ap (λ xs. length (receipts_of xs)) c.deref-place-items.ensures.value ∙ ap (λ v. length v.noted) c.self.view_is)
