-- Each ending, from the results of the steps: the bytes that are stored and read are the generated files.
use Rattle.std.proofs.Common.{◌∙◌, refl}
use Rattle.commands.specs.Delivery.IsPrinted.{Written, CutShort}
use Rattle.commands.specs.Ends.MakeEnds.{MakeStopped, AuctionOutOfMemory, MakeResult}
use Rattle.commands.proofs.EndLemmas.{cut-over}
use Rattle.commands.proofs.MessageLemmas.{says-write}
use Rattle.commands.proofs.make.make.Goals as goal

pub returns-in-Err-clause-ends : goal.returns-in-Err-clause-ends
returns-in-Err-clause-ends g c =
    let files = c.in-Ok.ensures.files in
    rw c.without_record.ensures.status
    (MakeStopped (rw (files.domains_are, files.rows_are, files.scenario_is) at c.in-Err.ensures.stopped) c.without_record.ensures.none)

pub returns-in_default-carry_out-clause-ends : goal.returns-in_default-carry_out-clause-ends
returns-in_default-carry_out-clause-ends g c =
    let files = c.in-Ok.ensures.files in
    AuctionOutOfMemory _ (rw (files.domains_are, files.rows_are, files.scenario_is) at c.in_default-store_files.ensures.stored) (record {
      status_is = c.end_out_of_memory-in_default-carry_out.ensures.status;
      found_is = c.end_out_of_memory-in_default-carry_out.ensures.none;
      line = c.end_out_of_memory-in_default-carry_out.ensures.line;
      files = refl;
    })

pub returns-in-Ok-write-clause-ends : goal.returns-in-Ok-write-clause-ends
returns-in-Ok-write-clause-ends g c =
    let files = c.in-Ok.ensures.files in
    MakeResult _ c.in-Ok-carry_out.carried.record c.in-Ok-carry_out.carried.summary.items
    (rw (files.domains_are, files.rows_are, files.scenario_is) at c.in_default-store_files.ensures.stored)
    (rw (files.domains_are, files.rows_are, files.scenario_is) at c.in-Ok-carry_out.ensures)
    c.with_record.ensures.kept
    (Written (c.with_record.ensures.status ∙ c.done_status-done.ensures) refl (rw c.deref.ensures.value at c.in-Ok-write.ensures.modelled))

pub returns-clause-ends : goal.returns-clause-ends
returns-clause-ends g c =
    let files = c.in-Ok.ensures.files in
    MakeResult _ c.in-Ok-carry_out.carried.record c.in-Ok-carry_out.carried.summary.items
    (rw (files.domains_are, files.rows_are, files.scenario_is) at c.in_default-store_files.ensures.stored)
    (rw (files.domains_are, files.rows_are, files.scenario_is) at c.in-Ok-carry_out.ensures)
    c.with_record-in-Err-write.ensures.kept
    (CutShort c.with_record-in-Err-write.ensures.status refl c.in-Err-write.ensures.failed
    (cut-over _ _ _ (rw c.deref.ensures.value at c.in-Err-write.ensures.steady_never_fails))
    (says-write _ _ _ _ _ _ (rw c.deref.ensures.value at c.in-Err-write.ensures.modelled) c.in-Err-write.ensures.failed))
