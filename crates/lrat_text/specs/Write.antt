-- The texts of a proof log and of a formula: lines of numbers in the formats LRAT and DIMACS CNF.
use Rattle.std.specs.Prelude.{ℕ, if◌then◌else◌, ◌+◌, ◌<◌, ◌≤◌, List, [], ◌∷◌, ◌++◌, map, length, codes, decimal}
use Rattle.std.specs.List.{flat_map, AllByRecursion}
use Rattle.clause_db.specs.declared.lit.Lit.{Lit}
use Rattle.clause_db.specs.Clauses.{Clauses}
use Rattle.rup_check.specs.declared.line.Line.{Line}
use Rattle.lrat_text.specs.Lines.{line_of}

-- A literal: its variable, with a minus sign if the literal is negative.
abbrev pub lit_text : Lit → List ℕ
lit_text l = if l.positive then decimal l.var else 45 ∷ decimal l.var

-- The field that ends a list of numbers.
abbrev pub zero_field : List ℕ
zero_field = codes "0"

-- The fields of a log's line: its number, its literals, 0, its hints, 0.
abbrev pub log_fields : ℕ → Line → List (List ℕ)
log_fields number line =
    decimal number ∷ (map lit_text line.lits ++ zero_field ∷ (map decimal line.hints ++ zero_field ∷ []))

-- The text of a log, its lines numbered from this number on.
unfoldable pub log_text : ℕ → List Line → List ℕ
log_text number [] = []
log_text number (line ∷ lines) = line_of (log_fields number line) ++ log_text (number + 1) lines

-- The fields of a clause: its literals, and 0.
abbrev pub clause_fields : List Lit → List (List ℕ)
clause_fields clause = map lit_text clause ++ zero_field ∷ []

-- The first line of a formula: its numbers of variables and clauses.
abbrev pub formula_header : Clauses → List ℕ
formula_header clauses = line_of (codes "p" ∷ codes "cnf" ∷ decimal clauses.vars ∷ decimal (length clauses.list) ∷ [])

-- The text of a formula: its first line, and a line for each clause.
unfoldable pub dimacs_text : Clauses → List ℕ
dimacs_text clauses = formula_header clauses ++ flat_map (λ clause. line_of (clause_fields clause)) clauses.list

-- Fields, each after a space.
abbrev pub spaced : List (List ℕ) → List ℕ
spaced fields = flat_map (λ field. 32 ∷ field) fields

-- ---- logs that a text can spell

-- The greatest number in a log's text.
abbrev pub greatest : ℕ
greatest = 9223372036854775807

-- Whether a text can name the literal's variable.
abbrev pub IsLitSpelled : Lit → Type 0
IsLitSpelled l = (1 ≤ l.var) × (l.var ≤ greatest)

-- Whether this is a number from 1 up to the one before `number`.
abbrev pub IsBefore : ℕ → ℕ → Type 0
IsBefore number h = (1 ≤ h) × (h < number)

-- Whether these lines, numbered from this number on, have numbers and literals that a text can name, and hints that
-- name what precedes them.
abbrev pub AreSpelled : ℕ → List Line → Type 0
AreSpelled number [] = Unit {0}
AreSpelled number (line ∷ lines) =
    ((number ≤ greatest) × AllByRecursion IsLitSpelled line.lits × AllByRecursion (IsBefore number) line.hints)
    × AreSpelled (number + 1) lines
