-- One more station.
use Rattle.std.proofs.Common.{◌∙◌}
use Rattle.auction_core.specs.ComponentLabels.{label_of}
use Rattle.auction_core.proofs.LabelLemmas.{merged-take}
use Rattle.auction_core.proofs.component_labels.ComponentLabels.merge_all.Goals as goal

pub loop-v-preserved : goal.loop-v-preserved
loop-v-preserved c = (
  c.merge.ensures.stations ∙ c.loop-v.invariant.0,
  merged-take (label_of c.args.self.now) (label_of c.loop-v.self) (label_of c.merge.new.self) c.args.near.now c.loop-v.v-index c.args.number _ c.loop-v-test.true c.loop-v.invariant.1 c.merge.ensures.labels,
)
