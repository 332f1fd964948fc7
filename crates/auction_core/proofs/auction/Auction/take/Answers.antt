-- With the posting's entry the history replays to the new state, so that state keeps the rule.
use Rattle.std.proofs.Common.{◌≡◌, ◌++◌, ◌∷◌, [], ◌≤◌, ◌-◌, vec_capacity, vec_len, ap, subst, sym, ◌∙◌, option_and_then}
use Rattle.auction_core.specs.Auction.{entry_with_reply, state_at}
use Rattle.auction_core.specs.Replay.{kept_answer}
use Rattle.auction_core.specs.Said.{MayBeTaken, taken}
use Rattle.auction_core.proofs.AuctionLemmas.{replayed-rule, spare-ready, told-between, told-order}
use Rattle.auction_core.proofs.JudgedLemmas.{looked}
use Rattle.auction_core.proofs.auction.Auction.take.Goals as goal

pub reply_to-reply-requires-clause-ready : goal.reply_to-reply-requires-clause-ready
reply_to-reply-requires-clause-ready c =
    let a = c.self.inside in
    spare-ready a.query_session a.pending_receipts a.opened.value.state a.history.items (vec_capacity a.history - vec_len a.history) c.self.invariant (subst (λ v. 1 ≤ v.spare) (sym c.self.view_is) c.requires.spare)

pub invariant_of-self : goal.invariant_of-self
invariant_of-self c =
    let a = c.self.inside in
    let w = a.query_session in
    let reply = c.reply_to-reply.result in
    let may : MayBeTaken w.scenario w.book (state_at w a.pending_receipts) c.args.posting = subst (λ v. MayBeTaken v.scenario v.book v.state c.args.posting) (sym c.self.view_is) c.requires.said in
    let kept = c.answer_if_taken.ensures ∙ ap (option_and_then (kept_answer reply)) c.accepted_answer-answer.ensures in
    let items : c.push_reserved.new.self.items ≡ a.history.items ++ entry_with_reply c.args.posting reply ∷ [] =
    c.push_reserved.ensures.items ∙ ap (λ o. a.history.items ++ record { worker = c.args.posting.worker; number = c.args.posting.number; reply = reply; answer = o } ∷ []) kept in
    let e = c.reply_to-reply.ensures in
    rw items (told-between w c.reply_to-reply.new.query_session a.pending_receipts c.reply_to-reply.new.pending_receipts a.opened.value.state a.history.items c.args.posting reply c.self.invariant may e.told e.scenario e.book e.places)

pub returns-clause-seen : goal.returns-clause-seen
returns-clause-seen c answer h =
    let v = c.args.self.now in
    subst (λ w. (c.reply_to-reply.result, state_at c.reply_to-reply.new.query_session c.reply_to-reply.new.pending_receipts) ≡ taken w.scenario w.book w.state c.args.posting) c.self.view_is c.reply_to-reply.ensures.told
    ∙ looked v.scenario v.book v.state c.args.posting answer h

pub returns-clause-rule : goal.returns-clause-rule
returns-clause-rule c =
    let w = c.reply_to-reply.new.query_session in
    replayed-rule w.scenario w.book c.self.inside.opened.value.state c.push_reserved.new.self.items (state_at w c.reply_to-reply.new.pending_receipts) (invariant_of-self c).replayed

pub returns-clause-order : goal.returns-clause-order
returns-clause-order c =
    let a = c.self.inside in
    let w = a.query_session in
    let new = state_at c.reply_to-reply.new.query_session c.reply_to-reply.new.pending_receipts in
    let may : MayBeTaken w.scenario w.book (state_at w a.pending_receipts) c.args.posting = subst (λ v. MayBeTaken v.scenario v.book v.state c.args.posting) (sym c.self.view_is) c.requires.said in
    told-order w.scenario w.book a.opened.value.state a.history.items (state_at w a.pending_receipts) new c.args.posting c.reply_to-reply.result c.self.invariant.replayed may c.reply_to-reply.ensures.told
    ∙ ap (λ v. v.state.order) c.self.view_is
