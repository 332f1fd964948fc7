use Rattle.pack_defs.proofs.ThresholdLaw as law
use Rattle.pack_defs.proofs.clock_laws.prove_never_paid_below_value.Goals as goal

pub returns : goal.returns
returns c = law.never_at_a_loss
