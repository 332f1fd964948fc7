use Rattle.pack_defs.proofs.Rows.{on_air_rows}
use Rattle.pack_defs.proofs.clock_laws.prove_on_air_rows.Goals as goal

pub returns : goal.returns
returns c = on_air_rows
