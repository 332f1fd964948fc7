-- By the lemma on a line.
use Rattle.rup_check.proofs.Sound.{line-holds}
use Rattle.rup_check.proofs.laws.prove_line_holds.Goals as goal

pub returns : goal.returns
returns c model vars clauses line e s = line-holds model vars clauses line s e
