use Rattle.pack_defs.proofs.ThresholdLaw.{threshold}
use Rattle.pack_defs.proofs.clock_laws.prove_threshold.Goals as goal

pub returns : goal.returns
returns c = threshold
