use Rattle.commands.specs.Ends.CheckEnds.{Counted, CountsCut}
use Rattle.commands.proofs.EndLemmas.{cut-over}
use Rattle.commands.proofs.MessageLemmas.{says-write}
use Rattle.commands.proofs.check.check.Goals as goal

pub returns-in-Ok-write-clause-ends : goal.returns-in-Ok-write-clause-ends
returns-in-Ok-write-clause-ends g c =
    Counted c.in-Ok.inputs c.in-Ok.ensures.modelled c.without_record-in-Ok-write.ensures.status c.without_record-in-Ok-write.ensures.none
    (rw (c.deref.ensures.value, c.in-Ok-counts.ensures) at c.in-Ok-write.ensures.modelled) c.in-Ok.ensures.files

pub returns-clause-ends : goal.returns-clause-ends
returns-clause-ends g c =
    CountsCut c.in-Ok.inputs c.in-Ok.ensures.modelled c.without_record-in-Err-write.ensures.status c.without_record-in-Err-write.ensures.none
    c.in-Err-write.ensures.failed
    (cut-over _ _ _ (rw (c.deref.ensures.value, c.in-Ok-counts.ensures) at c.in-Err-write.ensures.steady_never_fails))
    (says-write _ _ _ _ _ _ (rw (c.deref.ensures.value, c.in-Ok-counts.ensures) at c.in-Err-write.ensures.modelled) c.in-Err-write.ensures.failed)
    c.in-Ok.ensures.files
