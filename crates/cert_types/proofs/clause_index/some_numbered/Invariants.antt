-- The rest of the numbers decides as all of them do.
use Rattle.std.proofs.Common.{◌≡◌, drop}
use Rattle.std.specs.List.{list_any}
use Rattle.rup_check.specs.Follows.{clauses_before}
use Rattle.cert_types.specs.ClauseIndex.{numbered_within}
use Rattle.cert_types.proofs.clause_index.some_numbered.Given as goal

abbrev pub invariant-loop-n : goal.invariant-loop-n
invariant-loop-n l = list_any (numbered_within (clauses_before l.clauses.list l.lines) l.marks.lits) (drop l.n-index l.numbers) ≡ list_any (numbered_within (clauses_before l.clauses.list l.lines) l.marks.lits) l.numbers
