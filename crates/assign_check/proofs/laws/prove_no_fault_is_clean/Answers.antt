-- By the two lemmas.
use Rattle.assign_check.proofs.Faultless.{clean-on, faultless}
use Rattle.assign_check.proofs.laws.prove_no_fault_is_clean.Goals as goal

pub returns : goal.returns
returns c book set entries = (λ e. clean-on book set entries e, λ h. faultless book set entries h)
