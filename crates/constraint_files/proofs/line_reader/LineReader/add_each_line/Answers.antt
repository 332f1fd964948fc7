use Rattle.std.proofs.Common.{◌∙◌, refl, rules, sym}
use Rattle.std.proofs.lemmas.Bool.{eqb-true}
use Rattle.std.proofs.lemmas.List.{nil_from_length}
use Rattle.constraint_files.proofs.LineLemmas.{line-next, lines-none}
use Rattle.constraint_files.proofs.PieceLemmas.{counts-next, counts-none}
use Rattle.constraint_files.proofs.ReadsLemmas.{stops-all}
use Rattle.constraint_files.proofs.line_reader.LineReader.add_each_line.Goals as goal

pub loop-rest-preserved : goal.loop-rest-preserved
loop-rest-preserved g c =
    let loop = c.loop-rest in
    let next = line-next g.T.Table.add loop.table loop.number loop.rest.now c.split_line.result.0.now c.split_line.result.1.now c.split_line.ensures.lines in
    let done = rw c.in-Ok.is at c.add_line.ensures in
    record {
      lines = rw c.in_ok-number.ensures (sym (rw done at next) ∙ loop.invariant.lines);
      count = rw c.in_ok-number.ensures (counts-next loop.number loop.rest.now c.split_line.result.0.now c.split_line.result.1.now c.split_line.ensures.lines ∙ loop.invariant.count);
    }

pub returns-in-Err-Refused : goal.returns-in-Err-Refused
returns-in-Err-Refused g c =
    let loop = c.loop-rest in
    let refused = rw (c.in-Err-Refused.is, c.in-Err-Refused.field-0-is) at c.add_line.ensures in
    rw (c.in-Err-Refused.field-0-is, ← loop.invariant.lines, stops-all g.T.Table.add loop.table loop.number loop.rest.now c.split_line.result.0.now c.split_line.result.1.now c.in-Err-Refused.why c.split_line.ensures.lines refused) refl

pub returns : goal.returns
returns g c =
    let loop = c.loop-rest in
    let none = nil_from_length loop.rest.now (eqb-true _ 0 (sym c.is_empty.ensures ∙ c.loop-rest-test.false)) in
    let all = rw none at loop.invariant.lines in
    let count = rw none at loop.invariant.count in
    rw (← all, ← count, lines-none g.T.Table.add loop.table loop.number, counts-none loop.number) (search rules)
