-- The record of a sound transcript is that of the auction.
use Rattle.auction_core.proofs.AuctionLemmas.{is-auction}
use Rattle.commands.proofs.TranscriptLemmas.{shown-verdict}
use Rattle.commands.proofs.shown.record_from.Goals as goal

pub returns-in-Ok : goal.returns-in-Ok
returns-in-Ok c =
    shown-verdict c.args.inputs.now c.args.transcript c.in-Ok.record (is-auction c.args.inputs.now.scenario c.args.inputs.now.book c.requires c.keeps_order.ensures) c.in-Ok.ensures.sound c.in-Ok.ensures.shown c.in-Ok.ensures.same
