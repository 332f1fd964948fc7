use Rattle.cnf_encode.proofs.Decoding.{decoded-packing}
use Rattle.cnf_encode.proofs.laws.prove_model_gives_map.Goals as goal

pub returns : goal.returns
returns c book set model h = decoded-packing book set model h
