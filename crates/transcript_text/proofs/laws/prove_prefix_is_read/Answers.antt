use Rattle.transcript_text.proofs.PrefixLaws.{prefix-first}
use Rattle.transcript_text.proofs.laws.prove_prefix_is_read.Goals as goal

pub returns : goal.returns
returns c = prefix-first
