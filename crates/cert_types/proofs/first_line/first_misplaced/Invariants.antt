-- The first invalid line is the first of the rest.
use Rattle.std.proofs.Common.{◌≡◌, ◌+◌, List, take, drop}
use Rattle.clause_db.specs.declared.lit.Lit.{Lit}
use Rattle.rup_check.specs.Follows.{clauses_before}
use Rattle.cert_types.specs.FirstLine.{first_line, is_empty_iff_last}
use Rattle.cert_types.proofs.first_line.first_misplaced.Given as goal

abbrev pub invariant-loop-i : goal.invariant-loop-i
invariant-loop-i l = (clauses : List (List Lit)) → first_line is_empty_iff_last (clauses_before clauses (take l.i l.lines)) (l.i + 1) (drop l.i l.lines) ≡ first_line is_empty_iff_last clauses 1 l.lines
