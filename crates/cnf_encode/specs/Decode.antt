-- From a model of the packing formula to a channel map, and back.
use Rattle.std.specs.Prelude.{ℕ, Bool, false, ◌==◌, ◌-◌, List, map, find, unwrap_or, slice_index_or}
use Rattle.std.specs.List.{list_any}
use Rattle.clause_db.specs.declared.lit.Lit.{Lit}
use Rattle.clause_db.specs.Clause.{Satisfies}
use Rattle.pack_defs.specs.Book.{BookView, domain_of}
use Rattle.cnf_encode.specs.Formula.{variable_of}

-- The model that a list of values describes, variable 1 first. A variable after the end is false.
abbrev pub listed_model : List Bool → ℕ → Bool
listed_model values v = slice_index_or values (v - 1) false

-- The first channel of the station's domain whose variable is true.
abbrev pub chosen : BookView → List ℕ → (ℕ → Bool) → ℕ → ℕ
chosen book set model s = unwrap_or (find (λ c. model (variable_of book set (s, c))) (domain_of book s)) 0

-- The channel map that a model describes: each station of the set on its chosen channel.
abbrev pub decoded : BookView → List ℕ → (ℕ → Bool) → List (ℕ × ℕ)
decoded book set model = map (λ s. (s, chosen book set model s)) set

-- The model that a channel map describes: exactly the variables of its entries are true.
abbrev pub model_of : BookView → List ℕ → List (ℕ × ℕ) → ℕ → Bool
model_of book set entries v = list_any (λ x. variable_of book set x == v) entries

-- A model that makes all clauses true.
pub record HasModel (clauses : List (List Lit)) : Type 0 where
  pub model : ℕ → Bool
  pub makes : Satisfies model clauses
