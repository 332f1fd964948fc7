use Rattle.std.proofs.Common.{rules, ◌≡◌, ◌∙◌, ◌++◌, ◌∷◌, [], Some, ap, sym, subst, append_assoc}
use Rattle.std.specs.Prelude.{slice_get}
use Rattle.cert_types.specs.declared.answer.Answer.TheVariants.{Fit}
use Rattle.cert_types.specs.Query.{IsQuery}
use Rattle.auction_core.specs.Replay.{EntryView, entry_of}
use Rattle.auction_core.specs.QuerySession.{QuerySessionView}
use Rattle.auction_core.specs.State.{task_of}
use Rattle.auction_core.specs.Take.{PostingView}
use Rattle.turn_lock.specs.Passes.{known_of, pass_number, seen_of}
use Rattle.answer_board.specs.Boards.{beginning_of, raised}
use Rattle.answer_board.specs.Entries.{numbered}
use Rattle.answer_board.specs.Posts.{IsEarlyPost, IsPosted, IsPostingTaken}
use Rattle.answer_board.proofs.PostLemmas.{numbered-more, posted, seen-replays}
use Rattle.answer_board.proofs.WasCurrentLemmas.{starts-itself}
use Rattle.answer_board.proofs.board.Board.post_unjudged.Goals as goal

pub commit-requires-clause-entry : goal.commit-requires-clause-entry
commit-requires-clause-entry g c =
    let value = c.enter-turn.result.value.auction in
    let told = subst (IsEarlyPost value c.post_unjudged.new.auction c.number-worker.result c.args.number) c.in-Ok-Replied.field-0-is c.in-Ok-Replied.ensures.met in
    let posting : PostingView = record { worker = c.number-worker.result; number = c.args.number; answer = Fit [] } in
    let e : EntryView = entry_of posting c.in-Ok-Replied.reply in
    let taken : IsPostingTaken value c.post_unjudged.new.auction posting c.in-Ok-Replied.reply = told (Fit []) in
    let whole = ap numbered taken.history ∙ (numbered-more value.history e ∙ ap (λ l. l ++ (c.number-worker.result, e) ∷ []) c.enter-turn.ensures.value) in
    ((c.number-worker.result, e), whole, c.number-worker.ensures ∙ sym (ap (λ s. s.number) c.enter-turn.ensures.standing))

pub commit-requires-clause-base : goal.commit-requires-clause-base
commit-requires-clause-base g c =
    let value = c.enter-turn.result.value.auction in
    let told = subst (IsEarlyPost value c.post_unjudged.new.auction c.number-worker.result c.args.number) c.in-Ok-Replied.field-0-is c.in-Ok-Replied.ensures.met in
    let posting : PostingView = record { worker = c.number-worker.result; number = c.args.number; answer = Fit [] } in
    let taken : IsPostingTaken value c.post_unjudged.new.auction posting c.in-Ok-Replied.reply = told (Fit []) in
    taken.beginning ∙ c.enter-turn.ensures.base

pub leave-requires-clause-base : goal.leave-requires-clause-base
leave-requires-clause-base g c =
    let value = c.enter-turn.result.value.auction in
    let told = subst (IsEarlyPost value c.post_unjudged.new.auction c.number-worker.result c.args.number) c.in-Ok-Replied.field-0-is c.in-Ok-Replied.ensures.met in
    let posting : PostingView = record { worker = c.number-worker.result; number = c.args.number; answer = Fit [] } in
    let taken : IsPostingTaken value c.post_unjudged.new.auction posting c.in-Ok-Replied.reply = told (Fit []) in
    ap (λ t. beginning_of t.value.auction) c.commit.ensures.value ∙ (taken.beginning ∙ c.enter-turn.ensures.base)

pub returns-in-Ok-Replied-clause-idle : goal.returns-in-Ok-Replied-clause-idle
returns-in-Ok-Replied-clause-idle g c =
    let value = c.enter-turn.result.value.auction in
    let told = subst (IsEarlyPost value c.post_unjudged.new.auction c.number-worker.result c.args.number) c.in-Ok-Replied.field-0-is c.in-Ok-Replied.ensures.met in
    let posting : PostingView = record { worker = c.number-worker.result; number = c.args.number; answer = Fit [] } in
    let e : EntryView = entry_of posting c.in-Ok-Replied.reply in
    let taken : IsPostingTaken value c.post_unjudged.new.auction posting c.in-Ok-Replied.reply = told (Fit []) in
    let whole = ap numbered taken.history ∙ (numbered-more value.history e ∙ ap (λ l. l ++ (c.number-worker.result, e) ∷ []) c.enter-turn.ensures.value) in
    let last = ap (λ k. k.seen) c.leave.ensures.known ∙ c.commit.ensures.seen in
    let begins = c.enter-turn.ensures.seen in
    record {
      own = c.leave.ensures.own;
      idle = c.leave.ensures.idle;
      stands = c.leave.ensures.standing ∙ (c.commit.ensures.standing ∙ c.enter-turn.ensures.standing);
      seen = (begins.0 ++ (c.number-worker.result, e) ∷ [], last ∙ (whole ∙ (ap (λ l. l ++ (c.number-worker.result, e) ∷ []) begins.1 ∙ append_assoc (seen_of c.args.pass.now) begins.0 ((c.number-worker.result, e) ∷ []))));
      legal = search rules;
    }

pub returns-in-Ok-Replied-clause-met : goal.returns-in-Ok-Replied-clause-met
returns-in-Ok-Replied-clause-met g c answer =
    let value = c.enter-turn.result.value.auction in
    let told = subst (IsEarlyPost value c.post_unjudged.new.auction c.number-worker.result c.args.number) c.in-Ok-Replied.field-0-is c.in-Ok-Replied.ensures.met in
    let posting : PostingView = record { worker = c.number-worker.result; number = c.args.number; answer = answer } in
    let e : EntryView = entry_of posting c.in-Ok-Replied.reply in
    let taken : IsPostingTaken value c.post_unjudged.new.auction posting c.in-Ok-Replied.reply = told answer in
    let whole = ap numbered taken.history ∙ (numbered-more value.history e ∙ ap (λ l. l ++ (c.number-worker.result, e) ∷ []) c.enter-turn.ensures.value) in
    subst (λ w. IsPosted (raised c.args.self.now) (record { worker = w; number = c.args.number; answer = answer }) (known_of c.args.pass.now) (known_of c.leave.new.pass) c.in-Ok-Replied.reply) c.number-worker.ensures
    (posted (raised c.args.self.now) value c.post_unjudged.new.auction posting c.in-Ok-Replied.reply (known_of c.args.pass.now) (known_of c.enter-turn.new.pass) (known_of c.leave.new.pass)
    c.enter-turn.ensures.base c.enter-turn.ensures.value c.keeps_the_rule.ensures.replays c.keeps_the_rule-in-Ok-Replied.ensures.replays
    taken c.enter-turn.ensures.seen c.enter-turn.ensures.mine
    (ap (λ k. k.seen) c.leave.ensures.known ∙ c.commit.ensures.seen)
    (ap (λ k. k.mine) c.leave.ensures.known ∙ c.commit.ensures.mine (c.number-worker.result, e) whole))

pub returns-in-Ok-MustJudge-clause-met : goal.returns-in-Ok-MustJudge-clause-met
returns-in-Ok-MustJudge-clause-met g c =
    let value = c.enter-turn.result.value.auction in
    let made = raised c.args.self.now in
    let met = subst (IsEarlyPost value c.post_unjudged.new.auction c.number-worker.result c.args.number) c.in-Ok-MustJudge.field-0-is c.in-Ok-MustJudge.ensures.met in
    let asked = met.1 in
    let base = c.enter-turn.ensures.base in
    let left = c.leave-in-Ok-MustJudge.ensures.known in
    record {
      mine = ap (λ k. k.mine) left ∙ c.enter-turn.ensures.mine;
      was_current = record {
        before = seen_of c.leave-in-Ok-MustJudge.new.pass;
        begins = starts-itself (seen_of c.leave-in-Ok-MustJudge.new.pass);
        state = value.state;
        replays = seen-replays made value _ base (c.enter-turn.ensures.value ∙ sym (ap (λ k. k.seen) left)) c.keeps_the_rule.ensures.replays;
        stands = subst (λ (s : QuerySessionView). task_of s.scenario s.book value.state ≡ Some c.in-Ok-MustJudge.task) base asked.stands;
      };
      query = subst (λ (s : QuerySessionView). IsQuery s.book c.in-Ok-MustJudge.task) base asked.query;
      worker = subst (λ (s : QuerySessionView). slice_get s.scenario.workers (pass_number c.args.pass.now) ≡ Some c.in-Ok-MustJudge.worker) base (subst (λ w. slice_get value.scenario.workers w ≡ Some c.in-Ok-MustJudge.worker) c.number-worker.ensures asked.worker);
      number = asked.number;
    }
