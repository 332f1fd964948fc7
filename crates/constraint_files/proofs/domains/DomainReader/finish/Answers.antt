use Rattle.std.proofs.lemmas.Result.{err_from_is_err_and}
use Rattle.constraint_files.proofs.PieceLaws.{domains-done, domains-end}
use Rattle.constraint_files.proofs.domains.DomainReader.finish.Goals as goal

pub returns-in_err-table : goal.returns-in_err-table
returns-in_err-table c = λ bytes e.
    let p = err_from_is_err_and c.from_residual.result c.from_residual.ensures.1 in
    rw (domains-end bytes c.args.self e, ← c.self.view_is, p.1, p.2) c.in_err-table.ensures

pub invariant_of-result : goal.invariant_of-result
invariant_of-result c = rw c.in_ok-into_list.ensures (domains-done c.self.inside.lines c.in_ok-table.table c.self.invariant c.in_ok-table.ensures)

pub returns : goal.returns
returns c = λ bytes e. rw (domains-end bytes c.args.self e, ← c.self.view_is, c.in_ok-into_list.ensures) c.in_ok-table.ensures
