-- The result of following the complete transcript, in the words of the contract.
use Rattle.std.proofs.Common.{◌≡◌, subst}
use Rattle.auction_core.proofs.AuctionLemmas.{is-auction}
use Rattle.auction_core.specs.Backed.{IsBacked, record_of}
use Rattle.transcript_check.proofs.RecordLemmas.{record-same}
use Rattle.transcript_check.proofs.SoundLemmas.{shown-sound}
use Rattle.transcript_check.proofs.verify.verify.Goals as goal

pub returns-clause-sound : goal.returns-clause-sound
returns-clause-sound c = shown-sound c.args.sc.now c.args.book.now c.args.transcript (is-auction c.args.sc.now c.args.book.now c.requires c.keeps_order.ensures) c.in_ok-query_session.ensures.all.none

pub returns-clause-shown : goal.returns-clause-shown
returns-clause-shown c = c.in_ok-query_session.ensures.all.none

pub returns-clause-same : goal.returns-clause-same
returns-clause-same c =
    let f = c.in_ok-query_session.ensures in
    let sc = c.args.sc.now in
    let book = c.args.book.now in
    let state = c.in_ok-query_session.query_session.state in
    let rec = c.in_ok-record.record in
    let is : rec ≡ record_of sc state = subst (λ s. rec ≡ record_of s state) c.in_ok-scenario.ensures c.in_ok-record.ensures.record_is in
    let backed : IsBacked sc book state.order rec = subst (λ b. IsBacked sc b state.order rec) f.book (subst (λ s. IsBacked s c.in_ok-query_session.query_session.book state.order rec) c.in_ok-scenario.ensures c.in_ok-record.ensures.backed) in
    record-same sc book c.args.transcript rec state (is-auction sc book c.requires c.keeps_order.ensures) is backed f.all
