use Rattle.owner_line.proofs.OwnLineLemmas.{exits-by_lines}
use Rattle.owner_line.proofs.laws.prove_exits_by_its_lines.Goals as goal

pub returns : goal.returns
returns c = exits-by_lines
