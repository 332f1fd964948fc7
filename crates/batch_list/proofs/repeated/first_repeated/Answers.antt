use Rattle.std.proofs.Common.{◌∙◌, Some, ap, map, refl, sym}
use Rattle.batch_list.specs.Repeated.{is_given_twice, repeated_result}
use Rattle.batch_list.proofs.FoundLemmas.{found-next}
use Rattle.batch_list.proofs.repeated.first_repeated.Goals as goal

pub loop-line-init : goal.loop-line-init
unfolding repeated_result
loop-line-init c = refl

pub returns-then-is_given_twice : goal.returns-then-is_given_twice
returns-then-is_given_twice c =
    let words = map (λ w. w.now) c.args.words.now in
    let twice = ap (λ name. is_given_twice name words c.args.lines.now) (sym c.result-name.ensures) ∙ (sym c.is_given_twice.ensures ∙ c.if-is_given_twice.true) in
    ap Some c.result-name.ensures
    ∙ (sym (found-next (λ l. l.result) (λ name. is_given_twice name words c.args.lines.now) c.args.lines.now c.loop-line.line-index c.line-item.result c.loop-line-test.true c.line-item.is twice)
    ∙ c.loop-line.invariant)
