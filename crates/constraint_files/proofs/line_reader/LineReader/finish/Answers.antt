use Rattle.std.proofs.Common.{◌∙◌, Ok, Err, ap, subst, sym}
use Rattle.std.proofs.lemmas.Result.{err_from_is_err_and}
use Rattle.constraint_files.specs.LineReader.{finished}
use Rattle.constraint_files.specs.Reads.{Reads}
use Rattle.constraint_files.proofs.PieceLemmas.{end-is, end-stops}
use Rattle.constraint_files.proofs.line_reader.LineReader.finish.Goals as goal

pub returns-in_err-table : goal.returns-in_err-table
returns-in_err-table g c =
    let t = c.self.inside in
    let p = err_from_is_err_and c.from_residual.result c.from_residual.ensures.1 in
    let stops = end-stops g.T.Table.add t.table c.deref.result.now t.number _ _ c.in_err-table.field-0.0 c.in_err-table.ensures in
    rw (← c.self.view_is, p.1, p.2)
    (subst (λ xs. Reads (finished g.T.Table.add (record { made = t.table; begun = xs; line = t.number })) (Err c.in_err-table.field-0.0)) c.deref.ensures.value stops)

pub returns : goal.returns
returns g c =
    let t = c.self.inside in
    let is = end-is g.T.Table.add t.table c.deref.result.now t.number _ _ c.in_ok-table.field-0 c.in_ok-table.ensures in
    rw (← c.self.view_is, ← c.deref.ensures.value) (is ∙ ap (λ f. Ok f.made) (sym c.table.view_is))
