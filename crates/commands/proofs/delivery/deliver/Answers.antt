-- Each text was stored, and then the summary was written, or a part of it.
use Rattle.std.proofs.Common.{map, refl}
use Rattle.commands.specs.Delivery.{named_text}
use Rattle.commands.specs.Delivery.IsPrinted.{Written, CutShort}
use Rattle.commands.proofs.DeliveryLemmas.{delivers-all, delivers-some}
use Rattle.commands.proofs.EndLemmas.{cut-over}
use Rattle.commands.proofs.MessageLemmas.{says-write}
use Rattle.commands.proofs.delivery.deliver.Goals as goal

pub returns-in-Ok-clause-delivers : goal.returns-in-Ok-clause-delivers
returns-in-Ok-clause-delivers g c =
    delivers-all (map named_text c.args.texts.now) c.args.summary.now c.args.done _ _ _ c.args.done c.in_default.ensures.stored (Written refl refl c.in-Ok.ensures.modelled)

pub returns-in-Err-clause-delivers : goal.returns-in-Err-clause-delivers
returns-in-Err-clause-delivers g c =
    delivers-some (map named_text c.args.texts.now) c.args.summary.now c.args.done _ _ c.in-Err.status c.in-Err.ensures.stopped

pub returns-in-Err-write-clause-delivers : goal.returns-in-Err-write-clause-delivers
returns-in-Err-write-clause-delivers g c =
    delivers-all (map named_text c.args.texts.now) c.args.summary.now c.args.done _ _ _ 4 c.in_default.ensures.stored
    (CutShort refl refl c.in-Err-write.ensures.failed (cut-over _ _ _ c.in-Err-write.ensures.steady_never_fails) (says-write _ _ _ _ _ _ c.in-Err-write.ensures.modelled c.in-Err-write.ensures.failed))
