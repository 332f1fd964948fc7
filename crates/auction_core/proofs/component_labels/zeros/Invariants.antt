-- One zero for each iteration.
use Rattle.std.proofs.Common.{◌≡◌, ℕ, List, length}
use Rattle.auction_core.specs.ComponentLabels.{label_in}
use Rattle.auction_core.proofs.component_labels.zeros.Given as goal

abbrev pub invariant-loop : goal.invariant-loop
invariant-loop l = (length l.labels.items ≡ l.counter) × ((fs : List ℕ) (s : ℕ) → label_in fs l.labels.items s ≡ 0)
