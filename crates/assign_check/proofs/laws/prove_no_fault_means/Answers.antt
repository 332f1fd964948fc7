-- By the two lemmas, and one for each direction.
use Rattle.pack_defs.proofs.Words.{ascending-from}
use Rattle.assign_check.proofs.Faultless.{clean-on, faultless, clean-stations, on-stations}
use Rattle.assign_check.proofs.laws.prove_no_fault_means.Goals as goal

pub returns : goal.returns
returns c book set entries a b = (
  (λ e. let on = clean-on book set entries e in (clean-stations book set entries (ascending-from set a) (ascending-from _ b) on, on.clean)),
  (λ h. faultless book set entries (on-stations book set entries h.0 h.1)),
)
