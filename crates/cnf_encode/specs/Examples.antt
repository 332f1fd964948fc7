-- The clauses of the example of three stations, as in DIMACS CNF.
use Rattle.std.specs.Prelude.{ℕ, List, [], ◌∷◌}
use Rattle.clause_db.specs.declared.lit.Lit.{Lit}
use Rattle.clause_db.specs.Clause.{pos_lit, neg_lit}

-- The clause `v w 0`.
abbrev pub either : ℕ → ℕ → List Lit
either v w = pos_lit v ∷ pos_lit w ∷ []

-- The clause `-v -w 0`.
abbrev pub neither_with : ℕ → ℕ → List Lit
neither_with v w = neg_lit v ∷ neg_lit w ∷ []

-- The formula of three stations. Variables 1 and 2 are station 1 on channels 14 and 15, 3 and 4 are station 2, and 5 and 6 are
-- station 3.
abbrev pub three_clauses : List (List Lit)
three_clauses =
    either 1 2 ∷ either 3 4 ∷ either 5 6
    ∷ neither_with 1 2 ∷ neither_with 3 4 ∷ neither_with 5 6
    ∷ neither_with 1 3 ∷ neither_with 1 5 ∷ neither_with 2 4 ∷ neither_with 2 6 ∷ neither_with 3 5 ∷ neither_with 4 6 ∷ []
