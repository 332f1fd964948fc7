-- The start and then the steps.
use Rattle.std.proofs.Common.{◌≡◌, ◌∙◌, List, [], None, length, sym, subst, arith}
use Rattle.auction_core.specs.Setup.{IsOfAuction}
use Rattle.auction_core.specs.Checked.{IsEarly, found_in}
use Rattle.auction_core.specs.LogNumbers.{steps_in}
use Rattle.auction_core.specs.declared.transcript.TranscriptStep.{TranscriptStep}
use Rattle.auction_core.proofs.KeptLemmas.{early-more, started-room}
use Rattle.auction_core.proofs.ReplayTestsLemmas.{resumed-is}
use Rattle.auction_core.specs.NotShown.{start_fault}
use Rattle.auction_core.proofs.CheckLemmas.{opening-is, opening-order}
use Rattle.auction_core.proofs.EndLemmas.{begun, ended-at, fault-at, start-err-at, steps-err-at}
use Rattle.auction_core.proofs.check_sequence.check_sequence.Goals as goal

pub check_start-requires-clause-auction : goal.check_start-requires-clause-auction
check_start-requires-clause-auction c =
    let cw = c.in_ok-query_session.ensures in
    subst (λ b. IsOfAuction c.in_ok-query_session.query_session.scenario b) (sym cw.book) (subst (λ s. IsOfAuction s c.args.book.now) (sym cw.scenario) c.requires)

pub check_start-requires-clause-opening : goal.check_start-requires-clause-opening
check_start-requires-clause-opening c =
    let cw = c.in_ok-query_session.ensures in
    opening-is c.args.sc.now _ c.args.book.now _ c.args.transcript.order _ cw.scenario cw.book cw.state

pub returns-in-Err-clause-why : goal.returns-in-Err-clause-why
returns-in-Err-clause-why c =
    let cw = c.in_ok-query_session.ensures in
    start-err-at c.args.sc.now c.in_ok-query_session.query_session.scenario c.args.book.now c.in_ok-query_session.query_session.book c.args.transcript c.at.result cw.scenario cw.book
    (c.at.ensures.why _ c.in-Err.ensures.why)

pub returns-in-Err-check_steps-clause-why : goal.returns-in-Err-check_steps-clause-why
returns-in-Err-check_steps-clause-why c =
    let cw = c.in_ok-query_session.ensures in
    let sc = c.args.sc.now in
    let book = c.args.book.now in
    let t = c.args.transcript in
    let e : start_fault sc book t.start ≡ None = fault-at sc _ book _ t.start cw.scenario cw.book c.in-Ok.ensures.fault in
    let at = begun sc _ book _ _ t _ cw.scenario cw.book (opening-order sc book t.order _ cw.state) c.in-Ok.ensures.at in
    steps-err-at sc _ book _ t _ _ c.in-Err-check_steps.e (c.in-Ok.ensures.scenario ∙ cw.scenario) (c.in-Ok.ensures.book ∙ cw.book) c.into_vec.ensures e at c.in-Err-check_steps.ensures.why

pub returns-in-Ok-check_steps-clause-at : goal.returns-in-Ok-check_steps-clause-at
returns-in-Ok-check_steps-clause-at c =
    let cw = c.in_ok-query_session.ensures in
    let sc = c.args.sc.now in
    let book = c.args.book.now in
    let t = c.args.transcript in
    let at = begun sc _ book _ _ t _ cw.scenario cw.book (opening-order sc book t.order _ cw.state) c.in-Ok.ensures.at in
    ended-at sc _ book _ t _ _ _ (c.in-Ok.ensures.scenario ∙ cw.scenario) (c.in-Ok.ensures.book ∙ cw.book) c.into_vec.ensures at c.in-Ok-check_steps.ensures.at

pub returns-in-Err-clause-early : goal.returns-in-Err-clause-early
returns-in-Err-clause-early c = early-more c.at.result 0 (length c.args.transcript.steps) c.at.ensures.early (omega arith)

pub returns-in-Err-check_steps-clause-early : goal.returns-in-Err-check_steps-clause-early
returns-in-Err-check_steps-clause-early c = subst (λ (xs : List TranscriptStep). IsEarly c.in-Err-check_steps.e (length xs)) c.into_vec.ensures c.in-Err-check_steps.ensures.early

pub returns-in-Ok-check_steps-clause-state : goal.returns-in-Ok-check_steps-clause-state
returns-in-Ok-check_steps-clause-state c =
    let cw = c.in_ok-query_session.ensures in
    let sc = c.args.sc.now in
    let book = c.args.book.now in
    let t = c.args.transcript in
    let none : start_fault sc book t.start ≡ None = fault-at sc _ book _ t.start cw.scenario cw.book c.in-Ok.ensures.fault in
    resumed-is sc book t.order t.start (steps_in t.steps) [] (found_in sc book t) _ (started-room sc book t.start none) (returns-in-Ok-check_steps-clause-at c)
