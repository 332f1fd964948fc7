use Rattle.std.proofs.Common.{◌∙◌, sym}
use Rattle.std.proofs.lemmas.Bool.{eqb-true}
use Rattle.std.proofs.lemmas.List.{nil_from_length}
use Rattle.constraint_files.proofs.PieceLemmas.{counts-none}
use Rattle.constraint_files.proofs.plain_lines.next_line_number.Goals as goal

pub returns : goal.returns
returns c =
    let none = nil_from_length c.loop-rest.rest.now (eqb-true _ 0 (sym c.is_empty.ensures ∙ c.loop-rest-test.false)) in
    sym (counts-none c.loop-rest.number) ∙ rw none at c.loop-rest.invariant
