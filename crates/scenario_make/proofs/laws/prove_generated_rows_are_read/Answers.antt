use Rattle.scenario_make.proofs.RowReadings.{rows-read}
use Rattle.scenario_make.proofs.laws.prove_generated_rows_are_read.Goals as goal

pub returns : goal.returns
returns c = rows-read
