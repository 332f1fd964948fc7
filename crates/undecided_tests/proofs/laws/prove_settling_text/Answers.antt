use Rattle.undecided_tests.proofs.SettleLemmas.{settled-said, where-settled}
use Rattle.undecided_tests.proofs.laws.prove_settling_text.Goals as goal

pub returns-clause-settles : goal.returns-clause-settles
returns-clause-settles c = where-settled

pub returns-clause-settled : goal.returns-clause-settled
returns-clause-settled c book rec new step text e = let said = settled-said book rec new step text e in (said.log, said.read, said.refutes, said.same)
