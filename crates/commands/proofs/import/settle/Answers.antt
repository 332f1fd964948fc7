-- Each ending, from the results of the steps: nothing outside changes until the log is loaded.
use Rattle.std.proofs.Common.{refl, sym}
use Rattle.command_words.specs.Words.{import_view}
use Rattle.commands.proofs.ImportEndLemmas.{no-log-counted-since, no-log-since, no-open-step, not-settled-since, settled-since}
use Rattle.commands.proofs.import.settle.Goals as goal

pub returns-in-Some-clause-ends : goal.returns-in-Some-clause-ends
returns-in-Some-clause-ends g c =
    no-open-step (import_view c.args.files.now) _ _ _ _ _ c.args.inputs.now c.args.rec c.in-Some.fault c.requires.shown (sym c.in-Some.ensures) c.without_record.ensures.status c.without_record.ensures.none
    refl c.print_step_fault.ensures.says refl

pub returns-in-Err-clause-ends : goal.returns-in-Err-clause-ends
returns-in-Err-clause-ends g c =
    no-log-since (import_view c.args.files.now) _ _ _ _ _ _ c.args.inputs.now c.args.rec c.in-Err.why c.requires.shown (sym c.in_default.ensures)
    refl c.in-Err.ensures.read c.print_unloaded.ensures c.without_record-in-Err.ensures.status c.without_record-in-Err.ensures.none c.in-Err.ensures.files

pub returns-in-Err-clause-counted : goal.returns-in-Err-clause-counted
returns-in-Err-clause-counted g c =
    no-log-counted-since c.args.files.now.proof.now _ _ _ _ _ c.in-Err.why refl c.print_unloaded.ensures c.without_record-in-Err.ensures.status
    (λ not. c.in-Err.ensures.faults_unchanged (λ is. not (cc is)))

pub returns-in-Err-settled_by-clause-ends : goal.returns-in-Err-settled_by-clause-ends
returns-in-Err-settled_by-clause-ends g c =
    not-settled-since (import_view c.args.files.now) _ _ _ _ _ _ c.args.inputs.now c.args.rec c.in-Ok.log.items c.in-Err-settled_by.why c.requires.shown (sym c.in_default.ensures)
    refl c.in-Ok.ensures.read (rw c.deref.ensures.value at c.in-Err-settled_by.ensures) c.print_unsettled.ensures
    c.without_record-in-Err-settled_by.ensures.status c.without_record-in-Err-settled_by.ensures.none c.in-Ok.ensures.files

pub returns-clause-ends : goal.returns-clause-ends
returns-clause-ends g c =
    let settled = c.in-Ok-settled_by.ensures in
    settled-since (import_view c.args.files.now) _ _ _ _ _ _ c.args.inputs.now c.args.rec c.in-Ok.log.items c.in-Ok-settled_by.settled c.requires.shown (sym c.in_default.ensures)
    refl c.in-Ok.ensures.read (rw c.deref.ensures.value at settled.0) settled.1 c.keeps_ascending_fits.ensures c.with_record.ensures.kept
    (record { files = c.in-Ok.ensures.files; faults = c.in-Ok.ensures.counted; steady = c.in-Ok.ensures.steady; held = refl; sink_faults = refl; sure = refl })
    (rw c.with_record.ensures.status
    (rw (c.deref-2.ensures.value, c.deref-3.ensures.value, c.deref-4.ensures.value, c.in-Ok-texts_of.ensures.result, c.in-Ok-texts_of.ensures.transcript, c.in-Ok-texts_of.ensures.summary, c.done_status-done.ensures) at c.deliver-status.ensures.delivers))
