-- The rest of the literals decides as all of them do.
use Rattle.std.proofs.Common.{◌≡◌, drop}
use Rattle.rup_check.specs.Follows.{clauses_before}
use Rattle.cert_types.specs.ClauseIndex.{indexed_within, some_indexed}
use Rattle.cert_types.proofs.clause_index.ClauseIndex.some_indexed.Given as goal

abbrev pub invariant-loop-lit : goal.invariant-loop-lit
invariant-loop-lit l = some_indexed (indexed_within (clauses_before l.clauses.list l.lines) l.marks.lits l.bits) l.self (drop l.lit-index l.lits) ≡ some_indexed (indexed_within (clauses_before l.clauses.list l.lines) l.marks.lits l.bits) l.self l.lits
