use Rattle.std.proofs.Common.{◌≡◌, ◌+◌, [], take, drop}
use Rattle.rup_check.specs.Follows.{clauses_before, lines_fault, log_fault}
use Rattle.rup_check.proofs.check.check_log.Given as goal

abbrev pub invariant-loop-i : goal.invariant-loop-i
invariant-loop-i l = record {
  same : l.known.vars ≡ l.clauses.vars;
  nothing : l.known.lits ≡ [];
  left : lines_fault l.clauses.vars (clauses_before l.clauses.list (take l.i l.log.lines)) (l.i + 1) (drop l.i l.log.lines) ≡ log_fault l.clauses.vars l.clauses.list l.log.lines;
}
