use Rattle.transcript_check.proofs.SoundLemmas.{same-again, transcript-sound}
use Rattle.transcript_check.proofs.laws.prove_record_transcript_is_sound.Goals as goal

pub returns-clause-sound : goal.returns-clause-sound
returns-clause-sound c = transcript-sound

pub returns-clause-same : goal.returns-clause-same
returns-clause-same c = same-again
