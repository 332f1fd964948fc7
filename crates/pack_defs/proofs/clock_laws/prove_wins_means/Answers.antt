use Rattle.pack_defs.proofs.ThresholdLaw.{wins-gives, wins-from}
use Rattle.pack_defs.proofs.clock_laws.prove_wins_means.Goals as goal

pub returns : goal.returns
returns c = λ sc book order s v. (wins-gives sc book order s v, wins-from sc book order s v)
