-- One more slot is emptied; at the end every slot is empty.
use Rattle.std.proofs.Common.{rules, refl}
use Rattle.auction_core.proofs.Emptied.{emptied-next, all-emptied}
use Rattle.auction_core.proofs.pending_receipts.PendingReceipts.clear.Goals as goal

pub loop-i-preserved : goal.loop-i-preserved
loop-i-preserved c =
    (emptied-next c.loop-i.i c.self.inside.places.items c.loop-i.self-inside.places.items _ (search rules) c.loop-i.invariant.0 refl, c.loop-i.invariant.1, c.loop-i.invariant.2)

pub returns-clause-none : goal.returns-clause-none
returns-clause-none c =
    all-emptied c.loop-i.i c.self.inside.places.items c.loop-i.self-inside.places.items (search rules) c.loop-i.invariant.0
