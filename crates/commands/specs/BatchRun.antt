-- The outcome of one auction of a batch.
use Rattle.std.specs.Prelude.{◌≡◌, option_map}
use Rattle.commands.specs.declared.batch_run.BatchRunResult.{BatchRunResult}
use Rattle.commands.specs.declared.inputs.Inputs.{Inputs}
use Rattle.commands.specs.Batch.{own_text}
use Rattle.commands.specs.Records.{IsRecordBy}

-- The record is of the auction of these inputs, and the text is that of its result, if it was completed.
pub record IsRun (inputs : Inputs) (ran : BatchRunResult) : Type 0 where
  pub auction : IsRecordBy inputs ran.record ran.record.ending
  pub text : option_map (λ v. v.items) ran.result ≡ own_text inputs ran.record
