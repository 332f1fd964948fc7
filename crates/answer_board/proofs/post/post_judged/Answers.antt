use Rattle.std.proofs.Common.{◌∙◌, ◌++◌, ◌∷◌, [], ap, sym, true}
use Rattle.auction_core.specs.Said.{JudgesAnswer}
use Rattle.answer_board.proofs.PostLemmas.{kept-alike}
use Rattle.answer_board.proofs.post.post_judged.Goals as goal

pub returns-clause-taken : goal.returns-clause-taken
returns-clause-taken c answer h =
    let now = c.args.auction.now in
    let at = c.reserve.new.self in
    let said : JudgesAnswer at.scenario at.book at.state (record { worker = c.args.worker; number = c.args.number; said = c.args.said }) answer = rw (c.reserve.ensures.scenario, c.reserve.ensures.book, c.reserve.ensures.state) h in
    let told = c.take-told.ensures in
    record {
      told = rw (sym c.reserve.ensures.scenario, sym c.reserve.ensures.book, sym c.reserve.ensures.state) (told.seen answer said);
      history = told.history ∙ rw (c.reserve.ensures.history) (ap (λ e. now.history ++ e ∷ []) (kept-alike at.scenario at.book at.state c.take-told.new.self.state _ answer c.take-told.result said told.told));
      beginning = λ i. record {
        scenario = (told.scenario ∙ c.reserve.ensures.scenario) i;
        book = (told.book ∙ c.reserve.ensures.book) i;
        state = (told.opened ∙ c.reserve.ensures.opened) i;
        ready = true;
      };
    }
