-- By the lemmas on a worker's slot; a worker without a slot has no pending receipt.
use Rattle.std.proofs.Common.{rules, sym, ap, ◌∙◌, arith, le-ltb}
use Rattle.auction_core.specs.Take.{is_noted}
use Rattle.auction_core.proofs.PendingReceiptLemmas.{not-past, noted-at}
use Rattle.auction_core.proofs.pending_receipts.PendingReceipts.has.Goals as goal

pub returns-then-worker-len : goal.returns-then-worker-len
returns-then-worker-len c = rw (← c.self.view_is, noted-at c.args.worker c.self.inside.places.items c.index.result.now (search rules)) (search rules)

pub returns-else-worker-len : goal.returns-else-worker-len
returns-else-worker-len c =
    let test_history = c.if-worker-len.false in
    le-ltb c.args.worker c.len.result test_history
    ∙ sym (ap (λ v. is_noted v.noted c.args.worker) (sym c.self.view_is) ∙ not-past 0 c.args.worker c.self.inside.places.items (omega (arith, test_history, c.len.ensures, c.self.inside.places.ok.0)))
