-- One more zero.
use Rattle.std.proofs.Common.{rules, ap, ◌∙◌}
use Rattle.auction_core.specs.ComponentLabels.{label_in}
use Rattle.auction_core.proofs.LabelLemmas.{zero-first, zero-push}
use Rattle.auction_core.proofs.component_labels.zeros.Goals as goal

pub loop-init : goal.loop-init
loop-init c =
    (search rules, λ fs s. ap (λ ls. label_in fs ls s) c.in_ok-labels.ensures.items ∙ zero-first fs s)

pub loop-preserved : goal.loop-preserved
loop-preserved c =
    (search rules, λ fs s. ap (λ ls. label_in fs ls s) c.in_ok-push.ensures.items ∙ zero-push fs c.loop.labels.items s c.loop.invariant.1)
