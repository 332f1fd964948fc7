use Rattle.transcript_text.proofs.CutTexts.{cut-truncated}
use Rattle.transcript_text.proofs.laws.prove_cut_text_is_truncated.Goals as goal

pub returns : goal.returns
returns c = cut-truncated
