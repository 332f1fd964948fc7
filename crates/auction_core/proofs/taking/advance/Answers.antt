-- By the lemma on a settled query.
use Rattle.auction_core.proofs.TakingLemmas.{settles-noted, advanced-is}
use Rattle.auction_core.proofs.taking.advance.Goals as goal

pub settle-requires-clause-settles : goal.settle-requires-clause-settles
settle-requires-clause-settles c =
    let w = c.args.query_session.now in
    settles-noted w.scenario w.book w.state c.args.pending_receipts.now.noted c.args.shown c.requires.settles

pub returns-clause-told : goal.returns-clause-told
returns-clause-told c =
    let w = c.args.query_session.now in
    advanced-is w.scenario w.book w.state c.settle.new.self.state c.clear.new.self.noted c.args.shown c.next_number.result c.settle.ensures.state c.clear.ensures.none c.next_number.ensures
