use Rattle.std.proofs.Common.{◌∙◌, sym, ap, map}
use Rattle.std.proofs.lemmas.Result.{err_from_is_err_and}
use Rattle.owner_line.proofs.OwnerLineLemmas.{stops-own, next-own, none-own}
use Rattle.owner_line.proofs.read.add_line.Goals as goal

pub returns-in_err-add_record : goal.returns-in_err-add_record
returns-in_err-add_record c =
    let loop = c.loop-record in
    let p = err_from_is_err_and c.from_residual-in_err-add_record.result c.from_residual-in_err-add_record.ensures.1 in
    rw (← loop.invariant, p.1, p.2)
    (stops-own (λ r. map (λ f. f.items) r.items) c.args.rounds c.args.ids.now c.deref-record-items.result.now loop.owners c.add_record.new.owners loop.record-index c.record-item.result (map (λ f. f.items) c.deref.result.now) c.in_err-add_record.field-0.0
    c.loop-record-test.true c.record-item.is (ap (map (λ f. f.items)) c.deref.ensures.value) c.in_err-add_record.ensures)

pub loop-record-preserved : goal.loop-record-preserved
loop-record-preserved c =
    sym (next-own (λ r. map (λ f. f.items) r.items) c.args.rounds c.args.ids.now c.deref-record-items.result.now c.loop-record.owners c.add_record.new.owners c.loop-record.record-index c.record-item.result (map (λ f. f.items) c.deref.result.now)
    c.loop-record-test.true c.record-item.is (ap (map (λ f. f.items)) c.deref.ensures.value) c.in_ok-add_record.ensures) ∙ c.loop-record.invariant

pub returns : goal.returns
returns c =
    sym c.loop-record.invariant ∙ none-own (λ r. map (λ f. f.items) r.items) c.args.rounds c.args.ids.now c.deref-record-items.result.now c.loop-record.owners c.loop-record.record-index c.loop-record-test.false
