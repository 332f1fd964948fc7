-- The numbers before this one are replaced.
use Rattle.std.proofs.Common.{◌≡◌}
use Rattle.auction_core.proofs.LabelLemmas.{swapped_first}
use Rattle.auction_core.proofs.component_labels.replace_label.Given as goal

abbrev pub invariant-loop-i : goal.invariant-loop-i
invariant-loop-i l = l.labels.items ≡ swapped_first l.i l.fn.old l.fn.new l.initial.labels.items
