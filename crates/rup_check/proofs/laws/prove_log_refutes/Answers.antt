-- By the lemma on a log.
use Rattle.rup_check.proofs.Sound.{log-sound}
use Rattle.rup_check.proofs.laws.prove_log_refutes.Goals as goal

pub returns : goal.returns
returns c model vars clauses lines e end s = log-sound model vars clauses 1 lines e end s
