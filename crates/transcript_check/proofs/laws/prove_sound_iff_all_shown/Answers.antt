use Rattle.transcript_check.proofs.SoundLemmas.{shown-sound, sound-shown}
use Rattle.transcript_check.proofs.laws.prove_sound_iff_all_shown.Goals as goal

pub returns-clause-shown : goal.returns-clause-shown
returns-clause-shown c = shown-sound

pub returns-clause-sound : goal.returns-clause-sound
returns-clause-sound c = sound-shown
