-- By the lemma on labels that are replaced.
use Rattle.std.proofs.Common.{◌∙◌, ap, sym}
use Rattle.auction_core.specs.ComponentLabels.{ComponentLabelsView, label_of}
use Rattle.auction_core.proofs.LabelLemmas.{merged-swap}
use Rattle.auction_core.proofs.component_labels.ComponentLabels.merge.Goals as goal

pub returns-clause-labels : goal.returns-clause-labels
returns-clause-labels c =
    let own = ap (λ (p : ComponentLabelsView). label_of p c.args.station) c.self.view_is ∙ sym c.label-label.ensures in
    rw (← c.self.view_is) (merged-swap c.self.inside.stations.items c.self.inside.labels.items c.replace_label.new.labels.items c.args.station c.args.number c.label-label.result own c.if-label-eq0.false c.replace_label.ensures)
