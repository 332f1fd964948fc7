use Rattle.std.proofs.Common.{◌∙◌}
use Rattle.walk_repack.proofs.AnswerLemmas.{receipt-valid}
use Rattle.walk_repack.proofs.answers.receipt.Goals as goal

pub returns : goal.returns
returns c task worker some start walker whole =
    receipt-valid task worker c.args.walk_state c.from_vec.result c.into_moves.ensures.walk_state some start walker whole (c.from_vec.ensures ∙ c.into_moves.ensures.moves)
