-- A valid log is a proof from outside.
use Rattle.std.proofs.Common.{◌∙◌, sym}
use Rattle.cert_types.proofs.Outsiders.{outside-means}
use Rattle.cert_types.proofs.outside.certify_outside.Goals as goal

pub returns-in-Ok-None-clause-valid : goal.returns-in-Ok-None-clause-valid
returns-in-Ok-None-clause-valid c = outside-means c.args.book.now c.args.task.now.set (record { log = c.args.log }) (sym c.in-Ok-None.ensures ∙ c.in-Ok-None.field-0-is)
