use Rattle.std.proofs.Common.{rules, ◌∙◌, ◌++◌, ◌∷◌, [], ap, sym, subst, append_assoc}
use Rattle.auction_core.specs.Replay.{EntryView, entry_of}
use Rattle.auction_core.specs.Take.{PostingView}
use Rattle.auction_core.specs.declared.posting.Posting.{Posting}
use Rattle.auction_core.specs.Said.{JudgesAnswer}
use Rattle.turn_lock.specs.Passes.{known_of, seen_of}
use Rattle.answer_board.specs.Boards.{beginning_of, raised}
use Rattle.answer_board.specs.Entries.{numbered}
use Rattle.answer_board.specs.Posts.{IsPosted, IsPostingTaken, StaysJudged}
use Rattle.answer_board.proofs.PostLemmas.{numbered-more, posted, stands-here, stands-may}
use Rattle.answer_board.proofs.board.Board.post_judged.Goals as goal

pub post_judged-requires : goal.post_judged-requires
post_judged-requires g c =
    let value = c.enter-turn.result.value.auction in
    let said : Posting = record { worker = c.number-worker.result; number = c.args.number; said = c.args.said } in
    let on = subst (λ w. StaysJudged (raised c.args.self.now) (seen_of c.args.pass.now) (record { worker = w; number = c.args.number; said = c.args.said }) c.args.answer.now.value) (sym c.number-worker.ensures) c.requires.stands in
    let stands : JudgesAnswer value.scenario value.book value.state said c.args.answer.now.value = stands-here (raised c.args.self.now) value (seen_of c.args.pass.now) (seen_of c.enter-turn.new.pass) said c.args.answer.now.value on c.enter-turn.ensures.base c.enter-turn.ensures.value c.keeps_the_rule.ensures.replays c.enter-turn.ensures.seen in
    record { said = stands-may value.scenario value.book value.state said c.args.answer.now.value stands }

pub commit-requires-clause-entry : goal.commit-requires-clause-entry
commit-requires-clause-entry g c =
    let value = c.enter-turn.result.value.auction in
    let said : Posting = record { worker = c.number-worker.result; number = c.args.number; said = c.args.said } in
    let on = subst (λ w. StaysJudged (raised c.args.self.now) (seen_of c.args.pass.now) (record { worker = w; number = c.args.number; said = c.args.said }) c.args.answer.now.value) (sym c.number-worker.ensures) c.requires.stands in
    let stands : JudgesAnswer value.scenario value.book value.state said c.args.answer.now.value = stands-here (raised c.args.self.now) value (seen_of c.args.pass.now) (seen_of c.enter-turn.new.pass) said c.args.answer.now.value on c.enter-turn.ensures.base c.enter-turn.ensures.value c.keeps_the_rule.ensures.replays c.enter-turn.ensures.seen in
    let posting : PostingView = record { worker = c.number-worker.result; number = c.args.number; answer = c.args.answer.now.value } in
    let e : EntryView = entry_of posting c.in-Ok.reply in
    let taken : IsPostingTaken value c.post_judged.new.auction posting c.in-Ok.reply = c.in-Ok.ensures.taken c.args.answer.now.value stands in
    let whole = ap numbered taken.history ∙ (numbered-more value.history e ∙ ap (λ l. l ++ (c.number-worker.result, e) ∷ []) c.enter-turn.ensures.value) in
    ((c.number-worker.result, e), whole, c.number-worker.ensures ∙ sym (ap (λ s. s.number) c.enter-turn.ensures.standing))

pub commit-requires-clause-base : goal.commit-requires-clause-base
commit-requires-clause-base g c =
    let value = c.enter-turn.result.value.auction in
    let said : Posting = record { worker = c.number-worker.result; number = c.args.number; said = c.args.said } in
    let on = subst (λ w. StaysJudged (raised c.args.self.now) (seen_of c.args.pass.now) (record { worker = w; number = c.args.number; said = c.args.said }) c.args.answer.now.value) (sym c.number-worker.ensures) c.requires.stands in
    let stands : JudgesAnswer value.scenario value.book value.state said c.args.answer.now.value = stands-here (raised c.args.self.now) value (seen_of c.args.pass.now) (seen_of c.enter-turn.new.pass) said c.args.answer.now.value on c.enter-turn.ensures.base c.enter-turn.ensures.value c.keeps_the_rule.ensures.replays c.enter-turn.ensures.seen in
    let posting : PostingView = record { worker = c.number-worker.result; number = c.args.number; answer = c.args.answer.now.value } in
    let taken : IsPostingTaken value c.post_judged.new.auction posting c.in-Ok.reply = c.in-Ok.ensures.taken c.args.answer.now.value stands in
    taken.beginning ∙ c.enter-turn.ensures.base

pub leave-requires-clause-base : goal.leave-requires-clause-base
leave-requires-clause-base g c =
    let value = c.enter-turn.result.value.auction in
    let said : Posting = record { worker = c.number-worker.result; number = c.args.number; said = c.args.said } in
    let on = subst (λ w. StaysJudged (raised c.args.self.now) (seen_of c.args.pass.now) (record { worker = w; number = c.args.number; said = c.args.said }) c.args.answer.now.value) (sym c.number-worker.ensures) c.requires.stands in
    let stands : JudgesAnswer value.scenario value.book value.state said c.args.answer.now.value = stands-here (raised c.args.self.now) value (seen_of c.args.pass.now) (seen_of c.enter-turn.new.pass) said c.args.answer.now.value on c.enter-turn.ensures.base c.enter-turn.ensures.value c.keeps_the_rule.ensures.replays c.enter-turn.ensures.seen in
    let posting : PostingView = record { worker = c.number-worker.result; number = c.args.number; answer = c.args.answer.now.value } in
    let taken : IsPostingTaken value c.post_judged.new.auction posting c.in-Ok.reply = c.in-Ok.ensures.taken c.args.answer.now.value stands in
    ap (λ t. beginning_of t.value.auction) c.commit.ensures.value ∙ (taken.beginning ∙ c.enter-turn.ensures.base)

pub returns-in-Ok-clause-idle : goal.returns-in-Ok-clause-idle
returns-in-Ok-clause-idle g c =
    let value = c.enter-turn.result.value.auction in
    let said : Posting = record { worker = c.number-worker.result; number = c.args.number; said = c.args.said } in
    let on = subst (λ w. StaysJudged (raised c.args.self.now) (seen_of c.args.pass.now) (record { worker = w; number = c.args.number; said = c.args.said }) c.args.answer.now.value) (sym c.number-worker.ensures) c.requires.stands in
    let stands : JudgesAnswer value.scenario value.book value.state said c.args.answer.now.value = stands-here (raised c.args.self.now) value (seen_of c.args.pass.now) (seen_of c.enter-turn.new.pass) said c.args.answer.now.value on c.enter-turn.ensures.base c.enter-turn.ensures.value c.keeps_the_rule.ensures.replays c.enter-turn.ensures.seen in
    let posting : PostingView = record { worker = c.number-worker.result; number = c.args.number; answer = c.args.answer.now.value } in
    let e : EntryView = entry_of posting c.in-Ok.reply in
    let taken : IsPostingTaken value c.post_judged.new.auction posting c.in-Ok.reply = c.in-Ok.ensures.taken c.args.answer.now.value stands in
    let whole = ap numbered taken.history ∙ (numbered-more value.history e ∙ ap (λ l. l ++ (c.number-worker.result, e) ∷ []) c.enter-turn.ensures.value) in
    let last = ap (λ k. k.seen) c.leave.ensures.known ∙ c.commit.ensures.seen in
    let begins = c.enter-turn.ensures.seen in
    record {
      own = c.leave.ensures.own;
      idle = c.leave.ensures.idle;
      stands = c.leave.ensures.standing ∙ (c.commit.ensures.standing ∙ c.enter-turn.ensures.standing);
      seen = (begins.0 ++ (c.number-worker.result, e) ∷ [], last ∙ (whole ∙ (ap (λ l. l ++ (c.number-worker.result, e) ∷ []) begins.1 ∙ append_assoc (seen_of c.args.pass.now) begins.0 ((c.number-worker.result, e) ∷ []))));
      legal = search rules;
    }

pub returns-in-Ok-clause-posted : goal.returns-in-Ok-clause-posted
returns-in-Ok-clause-posted g c =
    let value = c.enter-turn.result.value.auction in
    let said : Posting = record { worker = c.number-worker.result; number = c.args.number; said = c.args.said } in
    let on = subst (λ w. StaysJudged (raised c.args.self.now) (seen_of c.args.pass.now) (record { worker = w; number = c.args.number; said = c.args.said }) c.args.answer.now.value) (sym c.number-worker.ensures) c.requires.stands in
    let stands : JudgesAnswer value.scenario value.book value.state said c.args.answer.now.value = stands-here (raised c.args.self.now) value (seen_of c.args.pass.now) (seen_of c.enter-turn.new.pass) said c.args.answer.now.value on c.enter-turn.ensures.base c.enter-turn.ensures.value c.keeps_the_rule.ensures.replays c.enter-turn.ensures.seen in
    let posting : PostingView = record { worker = c.number-worker.result; number = c.args.number; answer = c.args.answer.now.value } in
    let e : EntryView = entry_of posting c.in-Ok.reply in
    let taken : IsPostingTaken value c.post_judged.new.auction posting c.in-Ok.reply = c.in-Ok.ensures.taken c.args.answer.now.value stands in
    let whole = ap numbered taken.history ∙ (numbered-more value.history e ∙ ap (λ l. l ++ (c.number-worker.result, e) ∷ []) c.enter-turn.ensures.value) in
    subst (λ w. IsPosted (raised c.args.self.now) (record { worker = w; number = c.args.number; answer = c.args.answer.now.value }) (known_of c.args.pass.now) (known_of c.leave.new.pass) c.in-Ok.reply) c.number-worker.ensures
    (posted (raised c.args.self.now) value c.post_judged.new.auction posting c.in-Ok.reply (known_of c.args.pass.now) (known_of c.enter-turn.new.pass) (known_of c.leave.new.pass)
    c.enter-turn.ensures.base c.enter-turn.ensures.value c.keeps_the_rule.ensures.replays c.keeps_the_rule-in-Ok.ensures.replays
    taken c.enter-turn.ensures.seen c.enter-turn.ensures.mine
    (ap (λ k. k.seen) c.leave.ensures.known ∙ c.commit.ensures.seen)
    (ap (λ k. k.mine) c.leave.ensures.known ∙ c.commit.ensures.mine (c.number-worker.result, e) whole))
