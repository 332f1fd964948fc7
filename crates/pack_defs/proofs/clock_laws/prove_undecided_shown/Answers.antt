use Rattle.pack_defs.proofs.Rows.{undecided_shown}
use Rattle.pack_defs.proofs.clock_laws.prove_undecided_shown.Goals as goal

pub returns : goal.returns
returns c = undecided_shown
