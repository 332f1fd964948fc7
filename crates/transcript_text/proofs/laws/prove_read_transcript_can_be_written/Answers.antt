use Rattle.transcript_text.proofs.KeptSteps.{read-spelled}
use Rattle.transcript_text.proofs.laws.prove_read_transcript_can_be_written.Goals as goal

pub returns : goal.returns
returns c = read-spelled
