use Rattle.lrat_text.proofs.OneSpelling.{plain-said}
use Rattle.lrat_text.proofs.laws.prove_plain_text_is_written.Goals as goal

pub returns : goal.returns
returns c = plain-said
