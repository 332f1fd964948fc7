-- By cases on the posting's verdict.
use Rattle.std.proofs.Common.{sym, ap, ◌∙◌}
use Rattle.auction_core.specs.Auction.{state_at}
use Rattle.auction_core.specs.State.{CoreState}
use Rattle.auction_core.specs.Take.{accepted}
use Rattle.auction_core.proofs.TakingLemmas.{taken-turned, taken-told}
use Rattle.auction_core.proofs.taking.reply_to.Goals as goal

pub returns-in-Some-clause-told : goal.returns-in-Some-clause-told
returns-in-Some-clause-told c =
    let w = c.args.query_session.now in
    taken-turned w.scenario w.book (state_at w c.args.pending_receipts.now) c.args.posting c.in-Some.reply (sym c.unjudged_reply.ensures ∙ c.in-Some.is)

pub returns-in-Good-clause-told : goal.returns-in-Good-clause-told
returns-in-Good-clause-told c =
    let w = c.args.query_session.now in
    let state : CoreState = state_at w c.args.pending_receipts.now in
    c.accept.ensures.told
    ∙ (ap (accepted w.scenario w.book state c.args.posting.worker) c.into_answer.ensures.answer
    ∙ taken-told w.scenario w.book state c.args.posting _ (sym c.unjudged_reply.ensures ∙ c.in_default.is) c.in-Good.is)

pub returns-in-Bad-clause-told : goal.returns-in-Bad-clause-told
returns-in-Bad-clause-told c =
    let w = c.args.query_session.now in
    taken-told w.scenario w.book (state_at w c.args.pending_receipts.now) c.args.posting _ (sym c.unjudged_reply.ensures ∙ c.in_default.is) c.in-Bad.is
