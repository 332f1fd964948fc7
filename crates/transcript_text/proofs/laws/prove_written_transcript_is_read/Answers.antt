use Rattle.transcript_text.proofs.TextReads.{transcript-again}
use Rattle.transcript_text.proofs.laws.prove_written_transcript_is_read.Goals as goal

pub returns : goal.returns
returns c = transcript-again
