-- By the lemma.
use Rattle.assign_check.proofs.CountLaws.{counted-clean}
use Rattle.assign_check.proofs.laws.prove_none_violated_is_clean.Goals as goal

pub returns : goal.returns
returns c book set entries none stations domains = counted-clean book set entries none stations domains
