-- Each ending, from the results of the steps: nothing outside changes until the result is printed.
use Rattle.std.proofs.Common.{◌∙◌, refl}
use Rattle.commands.specs.Delivery.IsPrinted.{Written, CutShort}
use Rattle.command_words.specs.Words.{verify_view}
use Rattle.commands.proofs.EndLemmas.{cut-over}
use Rattle.commands.proofs.MessageLemmas.{says-write}
use Rattle.commands.proofs.ShownLemmas.{sound-printed}
use Rattle.commands.proofs.verify.verify.Goals as goal

pub returns-in-Ok-write-clause-ends : goal.returns-in-Ok-write-clause-ends
returns-in-Ok-write-clause-ends g c =
    sound-printed (verify_view c.args.files.now) _ _ _ _ _ c.in-Ok.shown.inputs c.in-Ok.shown.record c.in-Ok.ensures.shown c.in-Ok.ensures.same c.with_record.ensures.kept
    (Written (c.with_record.ensures.status ∙ c.done_status-done.ensures) refl (rw (c.deref.ensures.value, c.in-Ok-result_text.ensures) at c.in-Ok-write.ensures.modelled))

pub returns-clause-ends : goal.returns-clause-ends
returns-clause-ends g c =
    sound-printed (verify_view c.args.files.now) _ _ _ _ _ c.in-Ok.shown.inputs c.in-Ok.shown.record c.in-Ok.ensures.shown c.in-Ok.ensures.same c.with_record-in-Err-write.ensures.kept
    (CutShort c.with_record-in-Err-write.ensures.status refl c.in-Err-write.ensures.failed
    (cut-over _ _ _ (rw (c.deref.ensures.value, c.in-Ok-result_text.ensures) at c.in-Err-write.ensures.steady_never_fails))
    (says-write _ _ _ _ _ _ (rw (c.deref.ensures.value, c.in-Ok-result_text.ensures) at c.in-Err-write.ensures.modelled) c.in-Err-write.ensures.failed))
