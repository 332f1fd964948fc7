-- The state to which a history replays keeps the rule and continues the opened state.
use Rattle.std.proofs.Common.{◌≡◌, subst}
use Rattle.auction_core.specs.Auction.{AuctionView, state_at}
use Rattle.auction_core.specs.Postings.{Continues}
use Rattle.auction_core.specs.Rule.{KeepsTheRule}
use Rattle.auction_core.proofs.AuctionLemmas.{replayed-rule}
use Rattle.auction_core.proofs.Continues.{replay-goes}
use Rattle.auction_core.proofs.auction.Auction.keeps_the_rule.Goals as goal

pub returns-clause-rule : goal.returns-clause-rule
returns-clause-rule c =
    let a = c.self.inside in
    subst (λ v. KeepsTheRule v.scenario v.book v.state) c.self.view_is (replayed-rule a.query_session.scenario a.query_session.book a.opened.value.state a.history.items (state_at a.query_session a.pending_receipts) c.self.invariant.replayed)

pub returns-clause-order : goal.returns-clause-order
returns-clause-order c =
    let a = c.self.inside in
    subst (λ (v : AuctionView). v.state.order ≡ v.opened.order) c.self.view_is
    (replay-goes a.query_session.scenario a.query_session.book a.history.items a.opened.value.state (state_at a.query_session a.pending_receipts) c.self.invariant.replayed.replays).order

pub returns-clause-continues : goal.returns-clause-continues
returns-clause-continues c =
    let a = c.self.inside in
    subst (λ (v : AuctionView). Continues v.opened v.state) c.self.view_is
    (replay-goes a.query_session.scenario a.query_session.book a.history.items a.opened.value.state (state_at a.query_session a.pending_receipts) c.self.invariant.replayed.replays)
