use Rattle.std.proofs.Common.{◌≡◌, ◌-◌, ◌+◌, ◌*◌, length}
use Rattle.trail_prop.specs.Trails.{Grows}
use Rattle.trail_prop.proofs.propagate.propagate.Given as goal

abbrev pub invariant-loop-conflict : goal.invariant-loop-conflict
invariant-loop-conflict l = record {
  clauses : l.watching.trail.clauses ≡ l.initial.watching.trail.clauses;
  grows : Grows l.initial.watching.trail.entries l.watching.trail.entries;
}

abbrev pub decreases-loop-conflict : goal.decreases-loop-conflict
decreases-loop-conflict l = 2 * l.watching.trail.clauses.vars - (length l.watching.trail.entries + l.watching.head)
