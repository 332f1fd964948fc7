-- The record is that of the inputs' auction in its order, and continues what was kept.
use Rattle.std.proofs.Common.{subst}
use Rattle.auction_core.proofs.AuctionLemmas.{is-auction}
use Rattle.auction_core.specs.Backed.{IsBacked}
use Rattle.commands.proofs.EndLemmas.{ended-record, own-ended}
use Rattle.commands.proofs.ResumeEndLemmas.{goes-from}
use Rattle.commands.proofs.resume.finish_auction.Goals as goal

pub returns-clause-ended : goal.returns-clause-ended
returns-clause-ended g c =
    let inputs = c.args.inputs.now in
    let rec = c.in_ok-rec.rec in
    let a = is-auction inputs.scenario inputs.book c.requires.auction c.keeps_order.ensures in
    let backed : IsBacked inputs.scenario inputs.book c.args.auction.state.order rec = subst (λ sc. IsBacked sc inputs.book c.args.auction.state.order rec) c.in_ok-scenario.ensures c.in_ok-rec.ensures.backed in
    own-ended c.args.auction.state.order inputs rec rec.ending (ended-record c.args.auction.state.order inputs rec a backed)

pub returns-clause-continues : goal.returns-clause-continues
returns-clause-continues g c = λ kept behind.
    let inputs = c.args.inputs.now in
    let a = is-auction inputs.scenario inputs.book c.requires.auction c.keeps_order.ensures in
    goes-from inputs kept c.args.auction c.in_ok-rec.rec a behind c.in_ok-rec.ensures.continues
