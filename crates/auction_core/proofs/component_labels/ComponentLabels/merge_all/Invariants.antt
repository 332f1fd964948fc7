-- The components of the stations so far are merged.
use Rattle.std.proofs.Common.{◌≡◌, take}
use Rattle.auction_core.specs.ComponentLabels.{label_of, merged_labels}
use Rattle.auction_core.proofs.component_labels.ComponentLabels.merge_all.Given as goal

abbrev pub invariant-loop-v : goal.invariant-loop-v
invariant-loop-v l =
    (l.self.stations ≡ l.initial.self.stations)
    × (label_of l.self ≡ merged_labels (label_of l.initial.self) (take l.v-index l.fn.near) l.fn.number)
