-- The beginning of a transcript without a fault may be continued.
use Rattle.auction_core.proofs.AuctionLemmas.{is-auction}
use Rattle.auction_core.proofs.KeptLemmas.{kept-prefix}
use Rattle.auction_core.proofs.auction.Auction.resume.Goals as goal

pub returns-clause-kept : goal.returns-clause-kept
returns-clause-kept c =
    kept-prefix c.args.sc.now c.args.book.now c.args.prefix (is-auction c.args.sc.now c.args.book.now c.requires c.keeps_order.ensures) c.in_ok-query_session.ensures.none
