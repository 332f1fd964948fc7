use Rattle.std.proofs.Common.{◌∙◌, ap, sym, is_some}
use Rattle.std.proofs.lemmas.Bool.{false≢true}
use Rattle.answer_board.proofs.post.post_turned_away.Goals as goal

pub returns-clause-met : goal.returns-clause-met
returns-clause-met c answer = c.in-Ok.ensures.taken answer (λ t. absurd (false≢true (sym (ap is_some t) ∙ c.requires)))
