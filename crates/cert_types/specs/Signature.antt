-- Signatures: 64 bits for a list of literals, in which each literal sets one. If a clause is a subset of a line, the line's
-- signature has all bits of the clause's. So one comparison of two numbers excludes most clauses.
use Rattle.std.specs.Prelude.{ℕ, Bool, ◌*◌, ◌%◌, ◌^◌, ◌==◌, List, [], ◌∷◌, bit_and, bit_or}
use Rattle.clause_db.specs.declared.lit.Lit.{Lit}

-- The bit of a literal, which depends on its variable.
abbrev pub bit_of : Lit → ℕ
bit_of l = 1 * 2 ^ (l.var % 64) % 2 ^ 64

-- The bits of the literals, together with these bits.
abbrev pub signed : ℕ → List Lit → ℕ
signed bits [] = bits
signed bits (l ∷ ls) = signed (bit_or bits (bit_of l)) ls

-- The signature of the literals.
abbrev pub signature : List Lit → ℕ
signature lits = signed 0 lits

-- Whether all of the bits are among these.
abbrev pub covers : ℕ → ℕ → Bool
covers these bits = bit_and bits these == bits
