-- By the lemma on the components near a station.
use Rattle.std.proofs.Common.{◌∙◌}
use Rattle.auction_core.proofs.LabelLemmas.{since-is}
use Rattle.auction_core.proofs.component_labels.ComponentLabels.touches_since.Goals as goal

pub returns : goal.returns
returns c = c.any_since.ensures ∙ since-is c.args.book.now c.args.self.now c.args.station c.args.time c.neighbours.result.now c.neighbours.ensures.interfere c.requires
