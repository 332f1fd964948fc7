-- Each ending, from the results of the steps.
use Rattle.std.proofs.Common.{◌≡◌, ◌∙◌, Some, refl, ap, subst, inl}
use Rattle.std.specs.Prelude.{Err, None}
use Rattle.batch_list.specs.Repeated.{repeated_result}
use Rattle.commands.specs.Batch.{HeldBatch, Twice, Unread, batch_status, batch_texts, listing_of, listed_seen, status_lines, names_in_words}
use Rattle.command_words.specs.Words.{inputs_with}
use Rattle.commands.specs.BatchEnds.{AreRecordsOf}
use Rattle.commands.specs.BatchEnds.BatchEnds.{BatchStopped, BatchRan}
use Rattle.commands.specs.Delivery.{Delivers}
use Rattle.commands.specs.Inputs.{Agrees}
use Rattle.commands.specs.Outside.{outside}
use Rattle.command_words.specs.Words.{batch_view}
use Rattle.commands.specs.declared.inputs.batch_inputs.Listed.{Listed}
use Rattle.commands.proofs.BatchEndLemmas.{held-batch, listing-counts, stopped-each, stops-listing, stops-twice}
use Rattle.commands.proofs.DeliveryLemmas.{delivers-since}
use Rattle.commands.proofs.batch.batch.Goals as goal

pub returns-in-Err-clause-ends : goal.returns-in-Err-clause-ends
returns-in-Err-clause-ends g c =
    let names = batch_view c.args.files.now in
    let stop = c.in-Err.stop in
    rw c.without_record.ensures.status
    (BatchStopped (record {
      stop = Unread (inputs_with names names.list) stop;
      under = inl refl;
      modelled = λ files modelled. stops-listing files names (g.F.Folder.modelled c.args.folder.now).steady stop
          (subst (λ own. Agrees {A = Listed} listed_seen (g.F.Folder.modelled c.args.folder.now).steady (listing_of files own) (Err stop)) c.inputs_with-names.ensures (c.in-Err.ensures.modelled files modelled));
      counted = listing-counts (g.F.Folder.modelled c.args.folder.now).faults (g.F.Folder.modelled c.read_listed.new.folder).faults stop c.in-Err.ensures.counted;
      explains = rw c.inputs_with-names.ensures at c.explain.ensures.explains;
      files = c.in-Err.ensures.files;
    }) c.without_record.ensures.no_batch)

pub returns-in-Some-clause-ends : goal.returns-in-Some-clause-ends
returns-in-Some-clause-ends g c =
    let names = batch_view c.args.files.now in
    let listed = listed_seen c.in-Ok.listed in
    let name = c.in-Some.name.now in
    let twice : Some name ≡ repeated_result (names_in_words names) listed.lines = rw c.deref.ensures.value at c.in-Some.ensures in
    rw c.without_record-in-Some.ensures.status
    (BatchStopped (record {
      stop = Twice name;
      under = tt;
      modelled = λ files modelled. stops-twice files names (g.F.Folder.modelled c.args.folder.now).steady listed name (rw c.inputs_with-names.ensures at (c.in-Ok.ensures.modelled files modelled)) twice;
      counted = c.in-Ok.ensures.counted.rises;
      explains = (refl, c.print_line.ensures.says);
      files = c.in-Ok.ensures.files;
    }) c.without_record-in-Some.ensures.no_batch)

pub returns-in-Err-read_each-clause-ends : goal.returns-in-Err-read_each-clause-ends
returns-in-Err-read_each-clause-ends g c =
    let names = batch_view c.args.files.now in
    let listed = listed_seen c.in-Ok.listed in
    let once : None ≡ repeated_result (names_in_words names) listed.lines = rw c.deref.ensures.value at c.in_default.ensures in
    rw c.without_record-in-Err-read_each.ensures.status
    (BatchStopped
    (stopped-each names listed _ _ _ c.in-Err-read_each.status
    (λ files modelled. rw c.inputs_with-names.ensures at (c.in-Ok.ensures.modelled files modelled)) once
    (record { files = c.in-Ok.ensures.files; faults = c.in-Ok.ensures.counted.kept; steady = c.in-Ok.ensures.steady; held = refl; sink_faults = refl; sure = refl })
    c.in-Ok.ensures.counted.rises
    c.in-Err-read_each.ensures.stopped)
    c.without_record-in-Err-read_each.ensures.no_batch)

pub returns-clause-ends : goal.returns-clause-ends
returns-clause-ends g c =
    let names = batch_view c.args.files.now in
    let listed = listed_seen c.in-Ok.listed in
    let inputs = c.in-Ok-read_each.read.inputs.items in
    let records = c.in-Ok-carry_all_out.carried.records.items in
    let held : HeldBatch = record { lines = listed.lines; inputs = inputs } in
    let after = outside (g.F.Folder.modelled c.deliver-status.new.folder) (g.K.Sink.modelled c.deliver-status.new.out) in
    let once : None ≡ repeated_result (names_in_words names) listed.lines = rw c.deref.ensures.value at c.in_default.ensures in
    let listed-lines : c.in-Ok-read_each.read.lines.items ≡ listed.lines = ap (λ v. v.items) c.in-Ok-read_each.ensures.lines in
    let auctions : AreRecordsOf held records = rw (c.deref-2.ensures.value, listed-lines) at c.in-Ok-carry_all_out.ensures.auctions in
    rw (c.with_batch.ensures.status, c.with_batch.ensures.kept)
    (BatchRan held
    (λ files modelled. held-batch files names listed inputs (rw c.inputs_with-names.ensures at (c.in-Ok.ensures.modelled files modelled)) once (c.in-Ok-read_each.ensures.modelled files (c.in-Ok.ensures.files ∙ modelled)))
    auctions
    (delivers-since (batch_texts held records) (status_lines held.lines records) (batch_status records) _ _ _ _
    (subst (λ o. Delivers (batch_texts held records) (status_lines held.lines records) (batch_status records) o after c.deliver-status.result) c.in-Ok-read_each.ensures.same
    (rw (c.batch_status-done.ensures, c.deref-3.ensures.value, c.deref-4.ensures.value, listed-lines, c.deref-5.ensures.value, c.in-Ok-carry_all_out.ensures.texts, c.deref-6.ensures.value, c.in-Ok-carry_all_out.ensures.printed, c.deref-2.ensures.value, listed-lines) at c.deliver-status.ensures.delivers))
    (record { files = c.in-Ok.ensures.files; faults = c.in-Ok.ensures.counted.kept; steady = c.in-Ok.ensures.steady; held = refl; sink_faults = refl; sure = refl })))
