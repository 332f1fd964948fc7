use Rattle.walk_repack.proofs.AnswerLemmas.{dead-valid}
use Rattle.walk_repack.proofs.answers.refutation.Goals as goal

pub returns : goal.returns
returns c task worker dead start = dead-valid task worker c.args.walk_state.now c.args.pair c.keeps_walk_state.ensures dead start
