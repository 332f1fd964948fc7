use Rattle.pack_defs.proofs.OneRow.{row-by_answers, row-of_start}
use Rattle.pack_defs.proofs.clock_laws.prove_row_follows_from_answers.Goals as goal

pub returns-clause-bidder : goal.returns-clause-bidder
returns-clause-bidder c = row-by_answers

pub returns-clause-start : goal.returns-clause-start
returns-clause-start c = row-of_start
