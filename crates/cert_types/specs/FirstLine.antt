-- The first line of a log that fails a test.
use Rattle.std.specs.Prelude.{ℕ, Bool, not, ◌&&◌, ◌+◌, if◌then◌else◌, List, [], ◌∷◌, ◌++◌, Option, Some, None, is_none, min}
use Rattle.clause_db.specs.declared.lit.Lit.{Lit}
use Rattle.clause_db.specs.Clause.{is_empty_clause}
use Rattle.pack_defs.specs.Lists.{is_empty}
use Rattle.rup_check.specs.declared.line.Line.{Line}
use Rattle.rup_check.specs.Follows.{line_fault}

-- The place of the first line that fails a test, counted from this place. The test sees the clauses and lines before the line, and
-- the lines after it.
abbrev pub first_line : (List (List Lit) → Line → List Line → Bool) → List (List Lit) → ℕ → List Line → Option ℕ
first_line test clauses place [] = None
first_line test clauses place (line ∷ lines) =
    if test clauses line lines then first_line test (clauses ++ line.lits ∷ []) (place + 1) lines else Some place

-- Whether a line follows from the clauses and lines before it.
abbrev pub line_follows : ℕ → List (List Lit) → Line → List Line → Bool
line_follows vars clauses line rest = is_none (line_fault vars clauses line)

-- Whether a line is empty exactly if it is the last, as in a refutation.
abbrev pub is_empty_iff_last : List (List Lit) → Line → List Line → Bool
is_empty_iff_last clauses line rest = if is_empty rest then is_empty_clause line.lits else not (is_empty_clause line.lits)

-- Whether a line has a literal.
abbrev pub has_literal : List (List Lit) → Line → List Line → Bool
has_literal clauses line rest = not (is_empty_clause line.lits)

-- Whether a line passes both tests.
abbrev pub meets_both : (List (List Lit) → Line → List Line → Bool) → (List (List Lit) → Line → List Line → Bool) → List (List Lit) → Line → List Line → Bool
meets_both one other clauses line rest = one clauses line rest && other clauses line rest

-- The lesser of two places, each of which may be missing.
abbrev pub lesser : Option ℕ → Option ℕ → Option ℕ
lesser None other = other
lesser (Some m) None = Some m
lesser (Some m) (Some n) = Some (min m n)
