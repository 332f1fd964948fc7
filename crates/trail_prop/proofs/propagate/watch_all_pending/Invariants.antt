use Rattle.std.proofs.Common.{◌≡◌, ◌-◌, length}
use Rattle.trail_prop.proofs.propagate.watch_all_pending.Given as goal

abbrev pub invariant-loop-at : goal.invariant-loop-at
invariant-loop-at l = record { trail : l.watching.trail ≡ l.initial.watching.trail; head : l.watching.head ≡ l.initial.watching.head }

abbrev pub decreases-loop-at : goal.decreases-loop-at
decreases-loop-at l = length l.watching.pending - l.at
