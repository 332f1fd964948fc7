-- The labels of the remaining stations are still to be marked.
use Rattle.std.proofs.Common.{◌≡◌, drop, length}
use Rattle.auction_core.specs.ComponentLabels.{label_of, marked}
use Rattle.auction_core.proofs.component_labels.ComponentLabels.mark.Given as goal

abbrev pub invariant-loop-v : goal.invariant-loop-v
invariant-loop-v l =
    (length l.marks.items ≡ length l.initial.marks.items)
    × (marked (label_of l.fn.self) (drop l.v-index l.fn.near) l.marks.items ≡ marked (label_of l.fn.self) l.fn.near l.initial.marks.items)
