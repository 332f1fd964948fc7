use Rattle.std.proofs.Common.{◌∙◌, arith, sym}
use Rattle.std.proofs.lemmas.List.{length-take-le}
use Rattle.transcript_text.proofs.Cuts.{lines-of-part, no-line-sooner, none-behind, some-end}
use Rattle.transcript_text.proofs.pieces.whole_part.Goals as goal

pub loop-end-init : goal.loop-end-init
loop-end-init c = record { within = omega arith; behind = none-behind c.args.text.now }

pub slice_bounds-is_whole-end : goal.slice_bounds-is_whole-end
slice_bounds-is_whole-end c = sym (length-take-le c.loop-end.end c.args.text.now c.loop-end.invariant.within)

pub overflow_sub-end : goal.overflow_sub-end
overflow_sub-end c = some-end c.loop-end.end c.args.text.now (sym c.is_whole.ensures ∙ c.loop-end-test.true)

pub loop-end-smaller : goal.loop-end-smaller
loop-end-smaller c =
    let some = some-end c.loop-end.end c.args.text.now (sym c.is_whole.ensures ∙ c.loop-end-test.true) in
    omega (arith, some)

pub loop-end-preserved : goal.loop-end-preserved
loop-end-preserved c =
    let within = c.loop-end.invariant.within in
    record {
      within = omega (arith, within);
      behind = no-line-sooner c.loop-end.end c.args.text.now within (sym c.is_whole.ensures ∙ c.loop-end-test.true) c.loop-end.invariant.behind;
    }

pub slice_bounds-result-end : goal.slice_bounds-result-end
slice_bounds-result-end c = sym (length-take-le c.loop-end.end c.args.text.now c.loop-end.invariant.within)

pub returns-clause-lines : goal.returns-clause-lines
returns-clause-lines c = lines-of-part c.loop-end.end c.args.text.now (sym c.is_whole.ensures ∙ c.loop-end-test.false) c.loop-end.invariant.behind
