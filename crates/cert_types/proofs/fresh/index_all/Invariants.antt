-- The clauses up to here are filed.
use Rattle.std.proofs.Common.{take}
use Rattle.rup_check.specs.Follows.{clauses_before}
use Rattle.cert_types.specs.ClauseIndex.{IsClauseIndex}
use Rattle.cert_types.specs.Uses.{is_used}
use Rattle.cert_types.proofs.fresh.index_all.Given as goal

abbrev pub invariant-loop-i : goal.invariant-loop-i
invariant-loop-i l = IsClauseIndex (is_used l.uses) (clauses_before l.clauses.list l.lines) l.files (take l.i l.clauses.list)
