use Rattle.cnf_encode.proofs.Ranges.{formula-within}
use Rattle.cnf_encode.proofs.laws.prove_literals_within.Goals as goal

pub returns : goal.returns
returns c book set o = formula-within book set o
