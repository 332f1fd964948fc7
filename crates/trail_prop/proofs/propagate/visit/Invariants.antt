use Rattle.std.proofs.Common.{◌-◌, length}
use Rattle.trail_prop.specs.Steps.{VisitKeeps}
use Rattle.trail_prop.specs.Watching.{watches_at}
use Rattle.trail_prop.proofs.propagate.visit.Given as goal

abbrev pub invariant-loop-at : goal.invariant-loop-at
invariant-loop-at l = VisitKeeps l.initial.watching l.watching l.gone l.at

abbrev pub decreases-loop-at : goal.decreases-loop-at
decreases-loop-at l = length (watches_at l.watching.lists l.gone) - l.at
