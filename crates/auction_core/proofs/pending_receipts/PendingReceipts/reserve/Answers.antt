-- Room for all receipts is not lost.
use Rattle.std.proofs.Common.{◌∙◌, arith, ap, length, vec_capacity}
use Rattle.std.proofs.lemmas.Bool.{le-leb, leb-true}
use Rattle.auction_core.specs.PendingReceipts.{PendingReceiptsView}
use Rattle.auction_core.proofs.pending_receipts.PendingReceipts.reserve.Goals as goal

pub returns-clause-kept : goal.returns-clause-kept
returns-clause-kept c ready =
    let own = c.self.inside in
    let before = leb-true (length own.places.items) (vec_capacity own.all) (ap (λ (v : PendingReceiptsView). v.ready) c.self.view_is ∙ ready) in
    le-leb _ _ (omega (arith, before, c.reserve.ensures.capacity))
