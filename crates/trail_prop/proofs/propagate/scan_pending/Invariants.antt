use Rattle.trail_prop.specs.Steps.{PendingScanKeeps}
use Rattle.trail_prop.proofs.propagate.scan_pending.Given as goal

abbrev pub invariant-loop-at : goal.invariant-loop-at
invariant-loop-at l = PendingScanKeeps l.initial.watching l.watching l.at l.at-end
