use Rattle.transcript_check.proofs.WholeLemmas.{same-text}
use Rattle.transcript_check.proofs.laws.prove_sound_transcript_is_record_text.Goals as goal

pub returns : goal.returns
returns c = same-text
