use Rattle.pack_defs.proofs.Rows.{a_row_each}
use Rattle.pack_defs.proofs.clock_laws.prove_each_has_a_row.Goals as goal

pub returns : goal.returns
returns c = a_row_each
