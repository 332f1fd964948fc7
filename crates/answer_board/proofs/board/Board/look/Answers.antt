use Rattle.std.proofs.Common.{◌∙◌, ap, sym, subst}
use Rattle.std.proofs.lemmas.Result.{IfOk-weaker}
use Rattle.auction_core.specs.QuerySession.{QuerySessionView}
use Rattle.answer_board.specs.Boards.{raised}
use Rattle.answer_board.specs.Posts.{LookIs}
use Rattle.answer_board.proofs.PostLemmas.{seen-replays}
use Rattle.answer_board.proofs.board.Board.look.Goals as goal

pub returns-clause-look : goal.returns-clause-look
returns-clause-look g c =
    let value = c.enter-turn.result.value.auction in
    IfOk-weaker c.current_look-looked.result _ _ (λ look h. record {
      state = value.state;
      replays = seen-replays (raised c.args.self.now) value _ c.enter-turn.ensures.base (c.enter-turn.ensures.value ∙ sym (ap (λ k. k.seen) c.leave.ensures.known)) c.keeps_the_rule.ensures.replays;
      holds = subst (λ (s : QuerySessionView). LookIs s.scenario s.book value.state look) c.enter-turn.ensures.base h;
    }) c.current_look-looked.ensures
