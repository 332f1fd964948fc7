use Rattle.transcript_text.proofs.CutTexts.{error-stays}
use Rattle.transcript_text.proofs.laws.prove_error_is_final.Goals as goal

pub returns : goal.returns
returns c = error-stays
