-- No room is lost, whichever of the three calls runs out of memory.
use Rattle.std.proofs.Common.{◌≤◌, ◌-◌, vec_capacity, vec_len, subst}
use Rattle.auction_core.specs.Auction.{AuctionView, spare_of}
use Rattle.auction_core.proofs.AuctionLemmas.{spare-kept}
use Rattle.auction_core.proofs.auction.Auction.reserve.Goals as goal

pub returns-in_err-reserve-clause-kept : goal.returns-in_err-reserve-clause-kept
returns-in_err-reserve-clause-kept c =
    let a = c.self.inside in
    subst (λ (v : AuctionView). v.spare ≤ spare_of a.query_session a.pending_receipts (vec_capacity c.reserve.new.self - vec_len c.reserve.new.self)) c.self.view_is
    (spare-kept a.query_session a.query_session a.pending_receipts a.pending_receipts _ _ _ _ (λ ready. ready) (λ ready. ready) c.reserve.ensures.capacity c.reserve.ensures.len)

pub returns-in_err-reserve-2-clause-kept : goal.returns-in_err-reserve-2-clause-kept
returns-in_err-reserve-2-clause-kept c =
    let a = c.self.inside in
    subst (λ (v : AuctionView). v.spare ≤ spare_of a.query_session c.reserve-2.new.self (vec_capacity c.reserve.new.self - vec_len c.reserve.new.self)) c.self.view_is
    (spare-kept a.query_session a.query_session a.pending_receipts c.reserve-2.new.self _ _ _ _ (λ ready. ready) c.reserve-2.ensures.kept c.reserve.ensures.capacity c.reserve.ensures.len)

pub returns-clause-kept : goal.returns-clause-kept
returns-clause-kept c =
    let a = c.self.inside in
    subst (λ (v : AuctionView). v.spare ≤ spare_of c.reserve-3.new.self c.reserve-2.new.self (vec_capacity c.reserve.new.self - vec_len c.reserve.new.self)) c.self.view_is
    (spare-kept a.query_session c.reserve-3.new.self a.pending_receipts c.reserve-2.new.self _ _ _ _ c.reserve-3.ensures.kept c.reserve-2.ensures.kept c.reserve.ensures.capacity c.reserve.ensures.len)
