-- The clauses and the lines up to here are filed, and the first invalid line is the first of the rest.
use Rattle.std.proofs.Common.{◌≡◌, ◌+◌, [], take, drop}
use Rattle.rup_check.specs.Follows.{clauses_before}
use Rattle.cert_types.specs.ClauseIndex.{IsClauseIndex}
use Rattle.cert_types.specs.Uses.{is_used}
use Rattle.cert_types.specs.Fresh.{first_stale}
use Rattle.cert_types.proofs.fresh.first_stale_indexed.Given as goal

abbrev pub invariant-loop-i : goal.invariant-loop-i
invariant-loop-i l = record {
  indexed : IsClauseIndex (is_used l.uses) (clauses_before l.clauses.list l.lines) l.files (clauses_before l.clauses.list (take l.i l.lines));
  unmarked : l.marks.lits ≡ [];
  first : first_stale (clauses_before l.clauses.list (take l.i l.lines)) (l.i + 1) (drop l.i l.lines) ≡ first_stale l.clauses.list 1 l.lines;
}
