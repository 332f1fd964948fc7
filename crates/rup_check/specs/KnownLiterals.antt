-- The marks that record what the checker knows.
use Rattle.std.specs.Prelude.{ℕ, ◌≡◌, ◌&&◌, nat_le, Bool, false, List, slice_index_or}
use Rattle.clause_db.specs.declared.lit.Lit.{Lit}
use Rattle.clause_db.specs.Clause.{code_of, has_lit}
use Rattle.clause_db.specs.Clauses.{LitWithin}

-- The number of variables, and the literals that are known to be true.
pub record KnownLiteralsView : Type 0 where
  pub vars : ℕ
  pub lits : List Lit

-- Whether the literal's variable is one of 1 to `vars`.
abbrev pub is_lit_within : ℕ → Lit → Bool
is_lit_within vars l = nat_le 1 l.var && nat_le l.var vars

-- Whether each literal of the variables has a mark, which says whether it is known.
abbrev pub Marks : ℕ → List Bool → List Lit → Type 0
Marks vars marks known = (l : Lit) → LitWithin vars l → slice_index_or marks (code_of l) false ≡ has_lit known l
