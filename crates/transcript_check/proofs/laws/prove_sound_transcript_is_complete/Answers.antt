use Rattle.transcript_check.proofs.WholeLemmas.{none-more, none-other}
use Rattle.transcript_check.proofs.laws.prove_sound_transcript_is_complete.Goals as goal

pub returns-clause-steps : goal.returns-clause-steps
returns-clause-steps c = none-more

pub returns-clause-same : goal.returns-clause-same
returns-clause-same c = none-other
