use Rattle.cert_types.proofs.Outsiders.{outside-refutes}
use Rattle.cert_types.proofs.laws.prove_outside_proof_refutes.Goals as goal

pub returns : goal.returns
returns c = outside-refutes
