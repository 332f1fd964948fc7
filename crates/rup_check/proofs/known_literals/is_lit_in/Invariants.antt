use Rattle.std.proofs.Common.{◌≡◌, drop}
use Rattle.clause_db.specs.Clause.{has_lit}
use Rattle.rup_check.proofs.known_literals.is_lit_in.Given as goal

abbrev pub invariant-loop-known : goal.invariant-loop-known
invariant-loop-known l = has_lit (drop l.known-index l.lits) l.lit ≡ has_lit l.lits l.lit
