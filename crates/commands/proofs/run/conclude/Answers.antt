-- Each ending, by how the auction ended.
use Rattle.std.proofs.Common.{[], ◌∷◌, List, inr, refl, subst}
use Rattle.commands.specs.Ends.Concludes.{Unfit, StartOpen, Delivered}
use Rattle.commands.specs.Records.{IsEndedRecordIn, IsOpenRecordIn, IsRecordIn, IsRefutedRecordIn, done_status}
use Rattle.auction_core.specs.Backed.{undecided_of}
use Rattle.commands.specs.Calls.ConcludesCalls.{Stores}
use Rattle.commands.specs.Delivery.{Delivers, NamedText, named}
use Rattle.commands.specs.Outside.{outside}
use Rattle.commands.proofs.CallLemmas.{no-auction}
use Rattle.commands.proofs.DeliveryLemmas.{ended-of}
use Rattle.commands.proofs.RunLemmas.{ended-statuses}
use Rattle.commands.proofs.run.conclude.Goals as goal

pub returns-in-StartRefuted-clause-ends : goal.returns-in-StartRefuted-clause-ends
returns-in-StartRefuted-clause-ends g c =
    let inputs = c.args.inputs.now in
    let rec = c.args.rec in
    let of : IsRefutedRecordIn rec.order inputs rec = subst (IsEndedRecordIn rec.order inputs rec) c.in-StartRefuted.is c.requires.of in
    inr (Unfit of c.with_record.ensures.status c.with_record.ensures.kept c.print_line.ensures.says refl)

pub returns-in-StartUndecided-clause-ends : goal.returns-in-StartUndecided-clause-ends
returns-in-StartUndecided-clause-ends g c =
    let inputs = c.args.inputs.now in
    let rec = c.args.rec in
    let of : IsOpenRecordIn rec.order inputs rec = subst (IsEndedRecordIn rec.order inputs rec) c.in-StartUndecided.is c.requires.of in
    inr (StartOpen of c.with_record-in-StartUndecided.ensures.status c.with_record-in-StartUndecided.ensures.kept c.print_line-in-StartUndecided.ensures.says refl)

pub texts_of-requires-clause-of : goal.texts_of-requires-clause-of
texts_of-requires-clause-of g c = subst (IsEndedRecordIn c.args.rec.order c.args.inputs.now c.args.rec) c.in-Done.is c.requires.of

pub returns-clause-ends : goal.returns-clause-ends
returns-clause-ends g c =
    let inputs = c.args.inputs.now in
    let rec = c.args.rec in
    let of : IsRecordIn rec.order inputs rec = subst (IsEndedRecordIn rec.order inputs rec) c.in-Done.is c.requires.of in
    inr (Delivered of c.keeps_named_numbers.ensures c.keeps_ascending_fits.ensures c.with_record-2.ensures.kept
    (rw c.with_record-2.ensures.status
    (rw (c.deref.ensures.value, c.deref-2.ensures.value, c.deref-3.ensures.value, c.deref-4.ensures.value, c.in-Ok.ensures.result, c.in-Ok.ensures.channels, c.in-Ok.ensures.transcript, c.in-Ok.ensures.summary, c.done_status-done.ensures) at c.deliver-status.ensures.delivers)))

pub returns-in-StartRefuted-clause-called : goal.returns-in-StartRefuted-clause-called
returns-in-StartRefuted-clause-called g c = λ kept. no-auction _ _ 6 _ refl c.with_record.ensures.status

pub returns-in-StartUndecided-clause-called : goal.returns-in-StartUndecided-clause-called
returns-in-StartUndecided-clause-called g c = λ kept. no-auction _ _ 7 _ refl c.with_record-in-StartUndecided.ensures.status

pub returns-clause-called : goal.returns-clause-called
returns-clause-called g c = λ kept.
    let names = c.args.names.now in
    let texts : List NamedText = named names.result.now c.deref.result.now ∷ named names.channels.now c.deref-2.result.now ∷ named names.transcript.now c.deref-3.result.now ∷ [] in
    let summary = c.deref-4.result.now in
    let undecided = undecided_of c.args.rec.steps in
    let before = outside (g.F.Folder.modelled c.args.folder.now) (g.K.Sink.modelled c.args.out.now) in
    let after = outside (g.F.Folder.modelled c.deliver-status.new.folder) (g.K.Sink.modelled c.deliver-status.new.out) in
    let status = c.deliver-status.result in
    rw c.with_record-2.ensures.status
    (Stores (ended-statuses texts summary undecided before after status
    (ended-of texts summary (done_status undecided) before after status
    (subst (λ done. Delivers texts summary done before after status) c.done_status-done.ensures c.deliver-status.ensures.delivers)))
    (c.deliver-status.ensures.asked (λ e. cc e) kept))
