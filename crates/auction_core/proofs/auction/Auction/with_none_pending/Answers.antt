-- The empty history replays to the state of the query session.
use Rattle.auction_core.proofs.AuctionLemmas.{first-between, state-of-clock}
use Rattle.auction_core.proofs.auction.Auction.with_none_pending.Goals as goal

pub invariant_of-result : goal.invariant_of-result
invariant_of-result c =
    let w = c.keeps_the_rule.ensures in
    rw (c.new.ensures.items, c.of-opened.ensures) (first-between c.args.query_session c.args.pending_receipts w.auction w.in_order w.rule w.unnoted c.requires.places c.requires.none)

pub returns-clause-state : goal.returns-clause-state
returns-clause-state c = state-of-clock c.args.query_session c.args.pending_receipts c.keeps_the_rule.ensures.unnoted c.requires.none
