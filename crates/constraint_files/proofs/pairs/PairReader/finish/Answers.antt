use Rattle.std.proofs.Common.{◌≡◌, ◌∙◌, Ok, ap, sym, subst}
use Rattle.std.proofs.lemmas.Result.{err_from_is_err_and}
use Rattle.constraint_files.specs.PairTable.{ArePairs, PairsView}
use Rattle.constraint_files.proofs.PieceLaws.{pairs-done, pairs-end, pairs-end-stops}
use Rattle.constraint_files.proofs.pairs.PairReader.finish.Goals as goal

pub returns-in_err-finish : goal.returns-in_err-finish
returns-in_err-finish c = λ bytes domains e.
    let p = err_from_is_err_and c.from_residual.result c.from_residual.ensures.1 in
    rw (p.1, p.2) (pairs-end-stops bytes domains c.self.inside.lines c.in_err-finish.field-0.0 (e ∙ ap Ok (sym c.self.view_is)) c.in_err-finish.ensures)

pub invariant_of-result : goal.invariant_of-result
invariant_of-result c =
    let done = pairs-done c.self.inside.lines c.in_ok-finish.field-0 c.self.invariant c.in_ok-finish.ensures in
    let same : c.in_ok-finish.field-0.pairs_view ≡ record { list = c.in_ok-list.list.items; self_pairs = c.in_ok-list.self_pairs; strangers = c.in_ok-list.strangers } = sym c.into_table-table.ensures ∙ sym c.in_ok-list.ensures in
    let are = subst (λ (pairs_view : PairsView). ArePairs pairs_view.list) same done in
    record { ascend = are.ascend; of_two = are.of_two }

pub returns : goal.returns
returns c = λ bytes domains e.
    pairs-end bytes domains c.self.inside.lines c.in_ok-finish.field-0 (e ∙ ap Ok (sym c.self.view_is)) c.in_ok-finish.ensures ∙ ap Ok (sym c.into_table-table.ensures ∙ sym c.in_ok-list.ensures)
