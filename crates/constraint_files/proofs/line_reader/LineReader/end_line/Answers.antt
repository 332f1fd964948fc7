use Rattle.std.proofs.Common.{◌∙◌, ◌<◌, ap, arith, length}
use Rattle.std.proofs.lemmas.List.{length-append}
use Rattle.constraint_files.proofs.PieceLemmas.{one-line}
use Rattle.constraint_files.proofs.line_reader.LineReader.end_line.Goals as goal

pub returns : goal.returns
returns g c =
    let t = c.table.inside in
    let is = c.table.view_is ∙ c.in_ok-table.ensures.begun in
    let made = ap (λ f. f.made) is in
    let begun = ap (λ f. f.begun) is in
    let line = ap (λ f. f.line) is in
    let some : 0 < length t.begun.items = rw (begun, length-append c.args.self.begun c.args.bytes.now) (omega (arith, c.requires.begun)) in
    let lines = one-line t.begun.items some c.table.invariant in
    rw (c.deref.ensures.value, lines, begun, made, line, c.new.ensures.items) at c.add_lines.ensures
