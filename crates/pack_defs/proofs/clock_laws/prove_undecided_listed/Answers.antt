use Rattle.pack_defs.proofs.Rows.{undecided_listed}
use Rattle.pack_defs.proofs.clock_laws.prove_undecided_listed.Goals as goal

pub returns : goal.returns
returns c = undecided_listed
