use Rattle.std.proofs.Common.{◌∙◌, sym}
use Rattle.answer_board.proofs.PostLemmas.{ended-of}
use Rattle.answer_board.proofs.look.current_look.Goals as goal

pub returns-in-Ok-None : goal.returns-in-Ok-None
returns-in-Ok-None c =
    let now = c.args.auction.now in
    ended-of now.scenario now.book now.state (sym c.in-Ok-None.ensures.task ∙ c.in-Ok-None.field-0-is)
