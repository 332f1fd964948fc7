-- By the lemma on a number put into a slot.
use Rattle.auction_core.proofs.LabelLemmas.{label-set}
use Rattle.auction_core.proofs.component_labels.ComponentLabels.put.Goals as goal

pub returns-clause-labels : goal.returns-clause-labels
returns-clause-labels c z =
    let at = (rw c.deref.ensures.value at c.in-Some.ensures) in
    rw (← c.self.view_is) (label-set c.self.inside.stations.items c.self.inside.labels.items c.in-Some.place c.args.station c.args.number z c.self.invariant.0 c.self.invariant.1 at.0 at.1)
