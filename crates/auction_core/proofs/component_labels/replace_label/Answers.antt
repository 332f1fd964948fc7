-- One more number is replaced; at the end all are.
use Rattle.std.proofs.Common.{ap, ◌∙◌, refl, arith}
use Rattle.auction_core.specs.ComponentLabels.{replaced_label}
use Rattle.auction_core.proofs.LabelLemmas.{all-swapped, swapped-more}
use Rattle.auction_core.proofs.component_labels.replace_label.Goals as goal

pub loop-i-preserved : goal.loop-i-preserved
loop-i-preserved c =
    let long = c.args.labels.now.ok.0 in
    let end = c.len-i-end.ensures in
    let less = c.loop-i-test.true in
    swapped-more c.loop-i.i c.args.old c.args.new c.index.result.now c.replaced_label.result c.args.labels.now.items c.loop-i.labels.items _ c.loop-i.invariant
    (omega (arith, long, end, less)) (c.replaced_label.ensures ∙ ap (λ x. replaced_label c.args.old c.args.new x) c.index.ensures) refl

pub returns : goal.returns
returns c =
    let long = c.args.labels.now.ok.0 in
    let end = c.len-i-end.ensures in
    let over = c.loop-i-test.false in
    c.loop-i.invariant ∙ all-swapped c.loop-i.i c.args.old c.args.new c.args.labels.now.items (omega (arith, long, end, over))
