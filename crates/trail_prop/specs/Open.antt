-- What the known literals leave undecided, and when no clause forces anything more.
use Rattle.std.specs.Prelude.{ℕ, ◌≡◌, Bool, true, false, not, ◌&&◌, if◌then◌else◌, List, Option, Some, None}
use Rattle.std.specs.List.{All}
use Rattle.clause_db.specs.declared.lit.Lit.{Lit}
use Rattle.clause_db.specs.Clause.{opposite, has_lit, pos_lit, neg_lit}
use Rattle.clause_db.specs.Clauses.{LitWithin}
use Rattle.clause_db.specs.Forced.{is_false_clause, forced_by}

-- Whether neither the literal nor its opposite is known.
abbrev pub is_open : List Lit → Lit → Bool
is_open known l = not (has_lit known l) && not (has_lit known (opposite l))

-- The value of a variable, if it is known.
abbrev pub value_known : List Lit → ℕ → Option Bool
value_known known v = if has_lit known (pos_lit v) then Some true else (if has_lit known (neg_lit v) then Some false else None)

-- Whether the variable of each literal is one of 1 to `vars`.
abbrev pub LitsWithin : ℕ → List Lit → Type 0
LitsWithin vars lits = All (LitWithin vars) lits

-- Whether the clause is not false and forces no literal.
abbrev pub IsClauseSettled : List Lit → List Lit → Type 0
IsClauseSettled known clause = (is_false_clause known clause ≡ false) × (forced_by known clause ≡ None)

-- Whether no clause is false and none forces a literal.
abbrev pub IsComplete : List (List Lit) → List Lit → Type 0
IsComplete clauses known = All (IsClauseSettled known) clauses
