use Rattle.undecided_tests.proofs.RecordLemmas.{settled-backed, settled-clock, settled-left}
use Rattle.undecided_tests.proofs.laws.prove_settled_by_a_proof.Goals as goal

pub returns-clause-backed : goal.returns-clause-backed
returns-clause-backed c = settled-backed

pub returns-clause-left : goal.returns-clause-left
returns-clause-left c = settled-left

pub returns-clause-clock : goal.returns-clause-clock
returns-clause-clock c = settled-clock
