use Rattle.owner_line.proofs.OwnLineLemmas.{no_line_after}
use Rattle.owner_line.proofs.laws.prove_no_line_after_last_fall.Goals as goal

pub returns : goal.returns
returns c = no_line_after
