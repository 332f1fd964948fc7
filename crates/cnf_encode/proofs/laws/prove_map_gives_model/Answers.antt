use Rattle.cnf_encode.proofs.Encoding.{packing-satisfies}
use Rattle.cnf_encode.proofs.laws.prove_map_gives_model.Goals as goal

pub returns : goal.returns
returns c book set entries o a p = packing-satisfies book set entries o a p
