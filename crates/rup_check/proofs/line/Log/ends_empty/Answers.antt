use Rattle.std.proofs.Common.{◌∙◌, ◌+◌, ◌==◌, ◌<◌, length, sym, ap, arith}
use Rattle.std.proofs.lemmas.List.{drop_all}
use Rattle.rup_check.specs.Follows.{ends_empty}
use Rattle.rup_check.proofs.Reading.{ends-early, ends-later}
use Rattle.rup_check.proofs.line.Log.ends_empty.Goals as goal

pub returns-then-is_empty_at : goal.returns-then-is_empty_at
returns-then-is_empty_at c =
    let lines = c.args.self.now.lines in
    let there : c.loop-i.i < length lines = omega (arith, c.loop-i-test.true, c.len-count.ensures) in
    ap (λ n. c.loop-i.i + 1 == n) c.len-count.ensures ∙ sym (ends-early lines c.loop-i.i there (sym c.is_empty_at.ensures ∙ c.if-is_empty_at.true)) ∙ c.loop-i.invariant

pub loop-i-preserved : goal.loop-i-preserved
loop-i-preserved c =
    let lines = c.args.self.now.lines in
    let there : c.loop-i.i < length lines = omega (arith, c.loop-i-test.true, c.len-count.ensures) in
    sym (ends-later lines c.loop-i.i there (sym c.is_empty_at.ensures ∙ c.if-is_empty_at.false)) ∙ c.loop-i.invariant

pub returns : goal.returns
returns c = ap ends_empty (sym (drop_all c.loop-i.i c.args.self.now.lines (omega (arith, c.loop-i-test.false, c.len-count.ensures)))) ∙ c.loop-i.invariant
