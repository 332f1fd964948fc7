use Rattle.transcript_text.proofs.KeptSteps.{all-kept, read-keeps}
use Rattle.transcript_text.proofs.laws.prove_complete_steps_are_kept.Goals as goal

pub returns-clause-all : goal.returns-clause-all
returns-clause-all c = all-kept

pub returns-clause-cut : goal.returns-clause-cut
returns-clause-cut c = read-keeps
