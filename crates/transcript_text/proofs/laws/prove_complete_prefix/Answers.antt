use Rattle.transcript_text.proofs.PrefixLaws.{prefix-all}
use Rattle.transcript_text.proofs.laws.prove_complete_prefix.Goals as goal

pub returns : goal.returns
returns c = prefix-all
