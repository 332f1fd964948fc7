-- The new record is one of the inputs' auction.
use Rattle.auction_core.proofs.AuctionLemmas.{is-auction}
use Rattle.commands.proofs.ImportEndLemmas.{settling}
use Rattle.commands.proofs.import.settled_by.Goals as goal

pub returns : goal.returns
returns c =
    settling c.args.inputs.now c.args.rec c.args.step c.args.text.now c.settle_from_text.result (is-auction c.args.inputs.now.scenario c.args.inputs.now.book c.requires.auction c.keeps_order.ensures)
    c.requires.own c.settle_from_text.ensures.settled c.settle_from_text.ensures.backed c.settle_from_text.ensures.why
