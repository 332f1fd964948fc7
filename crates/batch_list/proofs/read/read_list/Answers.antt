use Rattle.std.proofs.Common.{◌∙◌, rules, sym}
use Rattle.std.proofs.lemmas.Bool.{eqb-true}
use Rattle.std.proofs.lemmas.Result.{err_from_is_err_and}
use Rattle.batch_list.proofs.ListLemmas.{list-refused, list-empty, list-read, list-few}
use Rattle.batch_list.proofs.read.read_list.Goals as goal

pub returns-in_err-list-clause-reads : goal.returns-in_err-list-clause-reads
returns-in_err-list-clause-reads c =
    let p = err_from_is_err_and c.from_residual.result c.from_residual.ensures.1 in
    rw (p.1, p.2) (list-refused c.args.bytes.now c.in_err-list.field-0.0 c.in_err-list.ensures)

pub returns-then-is_empty-clause-reads : goal.returns-then-is_empty-clause-reads
returns-then-is_empty-clause-reads c =
    list-empty c.args.bytes.now c.in_ok-list.list.items c.in_ok-list.ensures (sym c.in_ok-list.list.ok.0 ∙ eqb-true _ 0 (sym c.is_empty.ensures ∙ c.if-is_empty.true))

pub returns-clause-reads : goal.returns-clause-reads
returns-clause-reads c = list-read c.args.bytes.now c.in_ok-list.list.items c.in_ok-list.ensures (search rules)

pub returns-clause-few : goal.returns-clause-few
returns-clause-few c = list-few c.args.bytes.now c.in_ok-list.list.items c.in_ok-list.ensures
