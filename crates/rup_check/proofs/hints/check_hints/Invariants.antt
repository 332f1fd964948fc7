use Rattle.std.proofs.Common.{◌≡◌, ◌+◌, ◌≤◌, ◌∷◌, length, take}
use Rattle.rup_check.specs.Follows.{clauses_before, hints_fault}
use Rattle.rup_check.proofs.hints.check_hints.Given as goal

abbrev pub invariant-loop-next : goal.invariant-loop-next
invariant-loop-next l = record {
  left : hints_fault (clauses_before l.clauses.list (take l.before l.lines)) l.known.lits l.place (l.hint ∷ l.left) ≡ hints_fault (clauses_before l.clauses.list (take l.before l.lines)) l.fn.known.lits 1 l.fn.hints;
  place : l.place + length l.left ≤ length l.fn.hints;
  same : l.known.vars ≡ l.fn.known.vars;
}

abbrev pub decreases-loop-next : goal.decreases-loop-next
decreases-loop-next l = length l.left
