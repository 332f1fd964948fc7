-- Unit propagation: what a clause says if some literals are known to be true.
use Rattle.std.specs.Prelude.{Bool, not, if◌then◌else◌, List, [], ◌∷◌, filter, Option, Some, None}
use Rattle.std.specs.List.{list_all}
use Rattle.clause_db.specs.declared.lit.Lit.{Lit}
use Rattle.clause_db.specs.Clause.{opposite, has_lit}

-- Whether every literal of the clause is false.
abbrev pub is_false_clause : List Lit → List Lit → Bool
is_false_clause known clause = list_all (λ l. has_lit known (opposite l)) clause

-- The literals of the clause that are not false, each as often as the clause has it.
abbrev pub not_false : List Lit → List Lit → List Lit
not_false known clause = filter (λ l. not (has_lit known (opposite l))) clause

-- The list's literal, if it is the only one and not known to be true.
abbrev pub only_open : List Lit → List Lit → Option Lit
only_open known [] = None
only_open known (l ∷ []) = if has_lit known l then None else Some l
only_open known (l ∷ m ∷ ms) = None

-- The literal that the clause forces: it is neither true nor false, and all other literals of the clause are false (a unit clause).
abbrev pub forced_by : List Lit → List Lit → Option Lit
forced_by known clause = only_open known (not_false known clause)
