use Rattle.undecided_tests.proofs.RowLemmas.{rows-decided}
use Rattle.undecided_tests.proofs.laws.prove_one_row_is_decided.Goals as goal

pub returns : goal.returns
returns c = rows-decided
