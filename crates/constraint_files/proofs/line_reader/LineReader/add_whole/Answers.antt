use Rattle.std.proofs.Common.{◌≡◌, ◌∙◌, [], ap, arith, sym, subst}
use Rattle.std.proofs.lemmas.Bool.{eqb-true}
use Rattle.std.proofs.lemmas.List.{nil_from_length}
use Rattle.std.proofs.lemmas.Result.{err_from_is_err_and}
use Rattle.constraint_files.specs.Reads.{Reads}
use Rattle.constraint_files.proofs.PieceLemmas.{fed-whole, line-stops, whole-next}
use Rattle.constraint_files.proofs.line_reader.LineReader.add_whole.Goals as goal

pub returns-then-is_empty : goal.returns-then-is_empty
returns-then-is_empty g c =
    let empty : c.args.self.begun ≡ [] = ap (λ f. f.begun) (sym c.self.view_is) ∙ nil_from_length c.self.inside.begun.items (omega (arith, c.self.inside.begun.ok.0, eqb-true _ 0 (sym c.is_empty.ensures ∙ c.if-is_empty.true))) in
    rw (fed-whole g.T.Table.add c.args.self c.args.bytes.now c.requires.some c.requires.whole, empty) (rw empty at c.add_lines.ensures)

pub returns-in_err-end_line : goal.returns-in_err-end_line
returns-in_err-end_line g c =
    let p = err_from_is_err_and c.from_residual.result c.from_residual.ensures.1 in
    let none = rw (ap (λ f. f.begun) c.self.view_is) at c.self.invariant in
    rw (p.1, p.2) (line-stops g.T.Table.add c.args.self c.args.bytes.now c.split_line.result.0.now c.split_line.result.1.now c.in_err-end_line.field-0.0
    none c.requires.some c.requires.whole c.split_line.ensures.lines c.in_err-end_line.ensures)

pub returns : goal.returns
returns g c =
    let none = rw (ap (λ f. f.begun) c.self.view_is) at c.self.invariant in
    subst (λ o. Reads o c.add_lines-2.result) (sym (whole-next g.T.Table.add c.args.self c.in_ok-end_line.field-0 c.args.bytes.now c.split_line.result.0.now c.split_line.result.1.now
    none c.requires.some c.requires.whole c.split_line.ensures.lines c.in_ok-end_line.ensures)) c.add_lines-2.ensures
