-- The rest of the filed clauses decides as all of them do.
use Rattle.std.proofs.Common.{◌≡◌, drop}
use Rattle.std.specs.List.{list_any}
use Rattle.rup_check.specs.Follows.{clauses_before}
use Rattle.cert_types.specs.ClauseIndex.{indexed_within}
use Rattle.cert_types.proofs.clause_index.some_of.Given as goal

abbrev pub invariant-loop-f : goal.invariant-loop-f
invariant-loop-f l = list_any (indexed_within (clauses_before l.clauses.list l.lines) l.marks.lits l.bits) (drop l.f-index l.indexed) ≡ list_any (indexed_within (clauses_before l.clauses.list l.lines) l.marks.lits l.bits) l.indexed
