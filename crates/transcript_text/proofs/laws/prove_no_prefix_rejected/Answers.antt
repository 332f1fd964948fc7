use Rattle.transcript_text.proofs.PrefixLaws.{prefix-never}
use Rattle.transcript_text.proofs.laws.prove_no_prefix_rejected.Goals as goal

pub returns : goal.returns
returns c = prefix-never
