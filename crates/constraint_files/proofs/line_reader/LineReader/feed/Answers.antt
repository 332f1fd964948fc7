use Rattle.std.proofs.Common.{◌≡◌, ◌∙◌, [], sym}
use Rattle.std.proofs.lemmas.Bool.{eqb-true}
use Rattle.std.proofs.lemmas.List.{nil_from_length}
use Rattle.std.proofs.lemmas.Result.{err_from_is_err_and}
use Rattle.constraint_files.proofs.PieceLemmas.{bytes-stop, fed-append}
use Rattle.constraint_files.proofs.line_reader.LineReader.feed.Goals as goal

pub returns-then-is_empty : goal.returns-then-is_empty
returns-then-is_empty g c =
    let empty : c.split_whole.result.0.now ≡ [] = nil_from_length _ (eqb-true _ 0 (sym c.is_empty.ensures ∙ c.if-is_empty.true)) in
    let all = rw empty at c.split_whole.ensures.all in
    rw (← all) c.in_ok-begin.ensures.fed

pub returns-in_err-add_whole : goal.returns-in_err-add_whole
returns-in_err-add_whole g c =
    let p = err_from_is_err_and c.from_residual-in_err-add_whole.result c.from_residual-in_err-add_whole.ensures.1 in
    rw (← c.split_whole.ensures.all, p.1, p.2) (bytes-stop g.T.Table.add c.args.self c.split_whole.result.0.now c.split_whole.result.1.now c.in_err-add_whole.field-0.0 c.in_err-add_whole.ensures)

pub returns : goal.returns
returns g c =
    rw (← c.split_whole.ensures.all, fed-append g.T.Table.add c.args.self c.in_ok-add_whole.field-0 c.split_whole.result.0.now c.split_whole.result.1.now c.in_ok-add_whole.ensures)
    c.in_ok-begin-2.ensures.fed
