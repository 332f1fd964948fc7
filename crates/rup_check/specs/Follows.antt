-- When a line of a log follows from the clauses and the lines before it, and when a log is a refutation. Lines and hints are those
-- of LRAT (Cruz-Filipe et al. 2017), without the steps that are not RUP.
use Rattle.std.specs.Prelude.{ℕ, Bool, false, ◌||◌, ◌+◌, ◌==◌, ◌≡◌, nat_lt, if◌then◌else◌, List, [], ◌∷◌, ◌++◌, map, take, Option, Some, None, Result, Ok, Err}
use Rattle.std.specs.List.{list_any}
use Rattle.clause_db.specs.declared.lit.Lit.{Lit}
use Rattle.clause_db.specs.Clause.{opposite, is_empty_clause, clause_at}
use Rattle.clause_db.specs.Forced.{is_false_clause, forced_by}
use Rattle.rup_check.specs.declared.line.Line.{Line}
use Rattle.rup_check.specs.declared.error.LineErr.{LineErr}
use Rattle.rup_check.specs.declared.error.LineErr.TheVariants.{BadLits, NoSuchClause, NotUnit, NotFalsified}
use Rattle.rup_check.specs.declared.error.LogErr.{LogErr}
use Rattle.rup_check.specs.declared.error.LogErr.TheVariants.{BadLine}

-- Whether some number is repeated.
abbrev pub has_repeat : List ℕ → Bool
has_repeat [] = false
has_repeat (v ∷ vs) = list_any (λ w. w == v) vs || has_repeat vs

-- Whether a variable is 0, above the number of variables, or repeated: a literal occurs twice or with its opposite. That repetition
-- is rejected is this project's own rule, which LRAT leaves open.
abbrev pub has_bad_lits : ℕ → List Lit → Bool
has_bad_lits vars lits = list_any (λ l. l.var == 0 || nat_lt vars l.var) lits || has_repeat (map (λ l. l.var) lits)

-- The fault of the last hint, which names this clause: under the known literals it must be false.
abbrev pub last_hint_fault : List Lit → ℕ → Option (List Lit) → Option LineErr
last_hint_fault known place None = Some (NoSuchClause place)
last_hint_fault known place (Some clause) = if is_false_clause known clause then None else Some NotFalsified

-- What is known once the forced literal is true too. If there is none, the hint at this place is invalid.
abbrev pub with_forced : List Lit → ℕ → Option Lit → Result (List Lit) LineErr
with_forced known place None = Err (NotUnit place)
with_forced known place (Some l) = Ok (known ++ l ∷ [])

-- What is known after another hint, which names this clause: it must force a literal.
abbrev pub after_hint : List Lit → ℕ → Option (List Lit) → Result (List Lit) LineErr
after_hint known place None = Err (NoSuchClause place)
after_hint known place (Some clause) = with_forced known place (forced_by known clause)

-- The fault, or what the rest finds with what is known then.
abbrev pub fault_or : Result (List Lit) LineErr → (List Lit → Option LineErr) → Option LineErr
fault_or (Err why) rest = Some why
fault_or (Ok known) rest = rest known

-- The first fault of the hints, in order from this place, under the known literals (LRAT's unit propagation). Each except the last
-- must force a literal, which is known from then on. The last must name a false clause.
abbrev pub hints_fault : List (List Lit) → List Lit → ℕ → List ℕ → Option LineErr
hints_fault clauses known place [] = Some NotFalsified
hints_fault clauses known place (h ∷ []) = last_hint_fault known place (clause_at clauses h)
hints_fault clauses known place (h ∷ next ∷ hints) =
    fault_or (after_hint known place (clause_at clauses h)) (λ more. hints_fault clauses more (place + 1) (next ∷ hints))

-- The first fault of a line over the clauses and lines before it, or `None` if it follows: first of its literals, and then of its
-- hints, with every literal of the line false at the start.
unfoldable pub line_fault : ℕ → List (List Lit) → Line → Option LineErr
line_fault vars clauses line =
    if has_bad_lits vars line.lits then Some BadLits else hints_fault clauses (map opposite line.lits) 1 line.hints

-- The clauses, and after them the earlier lines.
abbrev pub clauses_before : List (List Lit) → List Line → List (List Lit)
clauses_before clauses lines = clauses ++ map (λ line. line.lits) lines

-- The clause of this number, if there is one. Numbers start at 1 and count the clauses, then the first `before` lines.
abbrev pub clause_by_number : List (List Lit) → List Line → ℕ → ℕ → Option (List Lit)
clause_by_number clauses lines before n = clause_at (clauses_before clauses (take before lines)) n

-- The fault of the line at this place, or else that of the rest.
abbrev pub line_or : ℕ → Option LineErr → Option LogErr → Option LogErr
line_or place (Some why) rest = Some (BadLine place why)
line_or place None rest = rest

-- The first line that does not follow, by its place, with its fault. Each line is checked over the clauses and the lines before it.
unfoldable pub lines_fault : ℕ → List (List Lit) → ℕ → List Line → Option LogErr
lines_fault vars clauses place [] = None
lines_fault vars clauses place (line ∷ lines) =
    line_or place (line_fault vars clauses line) (lines_fault vars (clauses ++ line.lits ∷ []) (place + 1) lines)

-- The first line of a log that does not follow, counted from 1.
abbrev pub log_fault : ℕ → List (List Lit) → List Line → Option LogErr
log_fault vars clauses lines = lines_fault vars clauses 1 lines

-- Whether every line follows from the clauses and the lines before it.
abbrev pub Follows : ℕ → List (List Lit) → List Line → Type 0
Follows vars clauses lines = log_fault vars clauses lines ≡ None

-- Whether the last line is empty and no other is, as in a refutation.
abbrev pub ends_empty : List Line → Bool
ends_empty [] = false
ends_empty (line ∷ []) = is_empty_clause line.lits
ends_empty (line ∷ next ∷ lines) = if is_empty_clause line.lits then false else ends_empty (next ∷ lines)
