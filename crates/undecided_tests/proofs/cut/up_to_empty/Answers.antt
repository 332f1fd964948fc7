-- Removing the last line keeps the lines up to the first empty one.
use Rattle.std.proofs.Common.{◌∙◌, ◌<◌, length, sym, ap, take, arith}
use Rattle.std.proofs.lemmas.List.{take_all}
use Rattle.undecided_tests.proofs.CutLemmas.{take-fewer}
use Rattle.undecided_tests.proofs.cut.up_to_empty.Goals as goal

pub loop-lines-preserved : goal.loop-lines-preserved
loop-lines-preserved c =
    let lines = c.loop-lines.lines in
    let more : c.kept_count-kept.result < length lines = omega (arith, c.loop-lines-test.true, c.len.ensures) in
    ap (take c.kept_count-kept.result) c.pop.ensures ∙ take-fewer lines c.kept_count-kept.result more ∙ c.loop-lines.invariant

pub returns : goal.returns
returns c =
    sym (take_all c.kept_count-kept.result c.loop-lines.lines (omega (arith, c.loop-lines-test.false, c.len.ensures))) ∙ c.loop-lines.invariant
