use Rattle.std.proofs.Common.{◌∙◌, sym}
use Rattle.std.proofs.lemmas.Result.{err_from_is_err_and}
use Rattle.constraint_files.proofs.LineLemmas.{after-next, after-none}
use Rattle.constraint_files.proofs.ReadsLemmas.{stops}
use Rattle.constraint_files.proofs.line_reader.add_line.Goals as goal

pub returns-in_err-add_record : goal.returns-in_err-add_record
returns-in_err-add_record g c =
    let loop = c.loop-record in
    let p = err_from_is_err_and c.from_residual-in_err-add_record.result c.from_residual-in_err-add_record.ensures.1 in
    rw (← loop.invariant, p.1, p.2)
    (stops g.T.Table.add loop.table c.add_record.new.self c.deref-record-items.result.now loop.record-index c.record-item.result c.in_err-add_record.field-0.0
    c.loop-record-test.true c.record-item.is c.in_err-add_record.ensures)

pub loop-record-preserved : goal.loop-record-preserved
loop-record-preserved g c =
    let next = after-next g.T.Table.add c.loop-record.table c.deref-record-items.result.now c.loop-record.record-index c.record-item.result c.loop-record-test.true c.record-item.is in
    sym (rw c.in_ok-add_record.ensures at next) ∙ c.loop-record.invariant

pub returns : goal.returns
returns g c =
    let all = after-none g.T.Table.add c.loop-record.table c.deref-record-items.result.now c.loop-record.record-index c.loop-record-test.false in
    sym c.loop-record.invariant ∙ all
