-- By the lemma on a worker's empty slot.
use Rattle.std.proofs.Common.{rules, ◌≡◌, false, sym, subst}
use Rattle.auction_core.specs.Take.{is_noted}
use Rattle.auction_core.proofs.PendingReceiptLemmas.{with-at}
use Rattle.auction_core.proofs.pending_receipts.PendingReceipts.note.Goals as goal

pub returns-clause-noted : goal.returns-clause-noted
returns-clause-noted c =
    rw (← c.self.view_is) (with-at c.args.worker c.self.inside.places.items c.args.receipt (search rules) (subst (λ v. is_noted v.noted c.args.worker ≡ false) (sym c.self.view_is) c.requires.new))
