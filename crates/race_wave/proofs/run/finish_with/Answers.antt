-- The record continues from where the auction was.
use Rattle.auction_core.proofs.Continues.{goes-in}
use Rattle.race_wave.proofs.MeasureLemmas.{later-goes}
use Rattle.race_wave.proofs.ReceiptLemmas.{later-keeps}
use Rattle.race_wave.proofs.run.finish_with.Goals as goal

pub returns-clause-continues : goal.returns-clause-continues
returns-clause-continues g c =
    let old = c.args.auction in
    let new = c.in_ok-auction.auction in
    let goes = later-goes old new c.in_ok-auction.ensures.beginning c.in_ok-auction.ensures.history c.keeps_the_rule.ensures.replays c.keeps_the_rule-2.ensures.replays in
    goes-in c.args.scenario old.state new.state c.in_ok-record.record goes c.in_ok-record.ensures.record_is

pub returns-clause-receipts : goal.returns-clause-receipts
returns-clause-receipts g c =
    let old = c.args.auction in
    let new = c.in_ok-auction.auction in
    later-keeps old new c.args.scenario c.in_ok-record.record c.in_ok-auction.ensures.beginning c.in_ok-auction.ensures.history c.keeps_the_rule.ensures.replays c.keeps_the_rule-2.ensures.replays
    c.keeps_the_rule.ensures.rule.shown.noted c.in_ok-record.ensures.record_is
