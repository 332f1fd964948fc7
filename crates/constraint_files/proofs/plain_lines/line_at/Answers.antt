use Rattle.std.proofs.Common.{◌≡◌, ◌∙◌, ap, arith, length, sym}
use Rattle.std.proofs.lemmas.Bool.{eqb-true}
use Rattle.std.proofs.lemmas.List.{length-map, nil_from_length}
use Rattle.csv.specs.Records.{Row, fields_of}
use Rattle.constraint_files.specs.Records.{lines_of}
use Rattle.constraint_files.specs.PlainLines.{raw_records}
use Rattle.constraint_files.proofs.RunLemmas.{line_at-next, line_at-none, line_at-stops}
use Rattle.constraint_files.proofs.plain_lines.line_at.Goals as goal

pub returns-then-before-count : goal.returns-then-before-count
returns-then-before-count c =
    let rows = c.in_ok-rows_of_line.field-0 in
    let line = c.split_line.result.0.now in
    let count : c.len-count.result ≡ length (raw_records line) = c.len-count.ensures ∙ (rows.ok.0 ∙ (sym (length-map rows.items (λ (r : Row). fields_of r)) ∙ ap length c.in_ok-rows_of_line.ensures)) in
    sym (line_at-stops c.loop-rest.number c.loop-rest.before line (lines_of c.split_line.result.1.now) (omega (arith, count, c.if-before-count.true)))
    ∙ rw c.split_line.ensures.lines at c.loop-rest.invariant

pub loop-rest-preserved : goal.loop-rest-preserved
loop-rest-preserved c =
    let rows = c.in_ok-rows_of_line.field-0 in
    let line = c.split_line.result.0.now in
    let count : c.len-count.result ≡ length (raw_records line) = c.len-count.ensures ∙ (rows.ok.0 ∙ (sym (length-map rows.items (λ (r : Row). fields_of r)) ∙ ap length c.in_ok-rows_of_line.ensures)) in
    rw (c.in_ok-number.ensures, count)
    (sym (line_at-next c.loop-rest.number c.loop-rest.before line (lines_of c.split_line.result.1.now) (omega (arith, count))) ∙ rw c.split_line.ensures.lines at c.loop-rest.invariant)

pub returns : goal.returns
returns c =
    let none = nil_from_length c.loop-rest.rest.now (eqb-true _ 0 (sym c.is_empty.ensures ∙ c.loop-rest-test.false)) in
    sym (line_at-none c.loop-rest.number c.loop-rest.before) ∙ rw none at c.loop-rest.invariant
