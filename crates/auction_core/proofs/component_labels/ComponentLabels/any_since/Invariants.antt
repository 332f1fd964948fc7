-- The remaining stations decide.
use Rattle.std.proofs.Common.{◌≡◌, drop, nat_le}
use Rattle.std.specs.List.{list_any}
use Rattle.auction_core.specs.ComponentLabels.{label_of}
use Rattle.auction_core.proofs.component_labels.ComponentLabels.any_since.Given as goal

abbrev pub invariant-loop-v : goal.invariant-loop-v
invariant-loop-v l =
    list_any (λ v. nat_le l.fn.time (label_of l.fn.self v)) (drop l.v-index l.fn.near) ≡ list_any (λ v. nat_le l.fn.time (label_of l.fn.self v)) l.fn.near
