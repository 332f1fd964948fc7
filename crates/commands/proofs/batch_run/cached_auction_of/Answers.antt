-- The record is that of the inputs' auction, by its ending.
use Rattle.auction_core.proofs.AuctionLemmas.{is-auction}
use Rattle.commands.proofs.EndLemmas.{record-by}
use Rattle.commands.proofs.batch_run.cached_auction_of.Goals as goal

pub returns : goal.returns
returns g c =
    record-by c.args.inputs.now c.in_ok-record.record (is-auction c.args.inputs.now.scenario c.args.inputs.now.book c.requires c.keeps_order.ensures) c.in_ok-record.ensures.backed
