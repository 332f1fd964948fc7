use Rattle.transcript_check.proofs.PrefixLemmas.{any-beginning}
use Rattle.transcript_check.proofs.laws.prove_any_prefix_resumes.Goals as goal

pub returns : goal.returns
returns c = any-beginning
