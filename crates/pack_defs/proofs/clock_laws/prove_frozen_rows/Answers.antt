use Rattle.pack_defs.proofs.Rows.{frozen_rows}
use Rattle.pack_defs.proofs.clock_laws.prove_frozen_rows.Goals as goal

pub returns : goal.returns
returns c = frozen_rows
