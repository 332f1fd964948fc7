-- By the lemma.
use Rattle.assign_check.proofs.Counts.{moved}
use Rattle.assign_check.proofs.laws.prove_move_changes_own_pairs.Goals as goal

pub returns : goal.returns
returns c book entries x = moved book x entries
