-- By the lemmas on a station's slot.
use Rattle.std.proofs.Common.{sym}
use Rattle.auction_core.proofs.LabelLemmas.{label-at, label-out}
use Rattle.auction_core.proofs.component_labels.label_at.Goals as goal

pub returns-in_default : goal.returns-in_default
returns-in_default c = sym (label-out c.args.stations.now c.args.labels.now c.args.station c.in_default.ensures)

pub returns : goal.returns
returns c =
    sym (label-at c.args.stations.now c.args.labels.now c.in-Some.place c.args.station _ c.requires.ascending c.requires.places c.in-Some.ensures.0 c.in-Some.ensures.1)
