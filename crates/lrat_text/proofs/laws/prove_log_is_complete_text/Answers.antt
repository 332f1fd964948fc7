use Rattle.lrat_text.proofs.WholeText.{text-whole}
use Rattle.lrat_text.proofs.laws.prove_log_is_complete_text.Goals as goal

pub returns : goal.returns
returns c = text-whole
