-- The index of clauses: each is filed under one of its literals, and a search visits the clauses filed under given literals.
use Rattle.std.specs.Prelude.{ℕ, ◌≡◌, Bool, true, false, not, ◌&&◌, ◌||◌, ◌==◌, ◌<◌, ◌^◌, if◌then◌else◌, List, [], ◌∷◌, ◌++◌, Option, Some, None, length, slice_index_or, slice_set}
use Rattle.std.specs.List.{list_any, list_all}
use Rattle.clause_db.specs.declared.lit.Lit.{Lit}
use Rattle.clause_db.specs.Clause.{has_lit, clause_at, code_of}
use Rattle.clause_db.specs.Clauses.{LitWithin}
use Rattle.rup_check.specs.KnownLiterals.{is_lit_within}
use Rattle.cert_types.specs.declared.clause_index.IndexedClause.{IndexedClause}
use Rattle.cert_types.specs.Fresh.{is_subclause, is_fresh}
use Rattle.cert_types.specs.Signature.{signature, covers}

-- The number of variables, the clauses filed under each literal (by its code), and the numbers of the clauses filed under none.
pub record ClauseIndexView : Type 0 where
  pub vars : ℕ
  pub lists : List (List IndexedClause)
  pub unkeyed : List ℕ

-- Whether there is a clause and each of its literals is one of these.
abbrev pub clause_within : List Lit → Option (List Lit) → Bool
clause_within lits None = false
clause_within lits (Some clause) = is_subclause lits clause

-- Whether the clause of this number exists and is a subset of the literals.
abbrev pub numbered_within : List (List Lit) → List Lit → ℕ → Bool
numbered_within all lits n = clause_within lits (clause_at all n)

-- The other literal with which a clause is filed.
abbrev pub other_of : IndexedClause → Lit
other_of f = record { var = f.var; positive = f.positive }

-- Whether a filed clause is a subset of these literals, if they have the literal that the clause is filed under. Their signature
-- covers the clause's, they have its other literal, and they have all of its literals unless its number is 0.
abbrev pub indexed_within : List (List Lit) → List Lit → ℕ → IndexedClause → Bool
indexed_within all lits bits f = covers bits f.bits && (has_lit lits (other_of f) && ((f.number == 0) || numbered_within all lits f.number))

-- The clauses filed under a literal.
abbrev pub indexed_at : ClauseIndexView → Lit → List IndexedClause
indexed_at files l = if is_lit_within files.vars l then slice_index_or files.lists (code_of l) [] else []

-- Whether some clause filed under one of the literals passes a test.
abbrev pub some_indexed : (IndexedClause → Bool) → ClauseIndexView → List Lit → Bool
some_indexed test files lits = list_any (λ l. list_any test (indexed_at files l)) lits

-- Whether a search finds a filed clause that is a subset of the literals.
abbrev pub has_indexed_within : List (List Lit) → ClauseIndexView → List Lit → Bool
has_indexed_within all files lits = list_any (numbered_within all lits) files.unkeyed || some_indexed (indexed_within all lits (signature lits)) files lits

-- The literal that stands for a missing one.
abbrev pub zero_lit : Lit
zero_lit = record { var = 0; positive = false }

-- A clause as it is filed under its literal at place `k`, with its literal at place `j`. If these are its only two literals, they
-- describe it completely, and its number is 0.
abbrev pub indexed_clause_of : List Lit → ℕ → ℕ → ℕ → IndexedClause
indexed_clause_of clause number k j = record {
  number = if (length clause == 2) && not (k == j) then 0 else number;
  bits = signature clause;
  var = (slice_index_or clause j zero_lit).var;
  positive = (slice_index_or clause j zero_lit).positive;
}

-- The index with one more clause under a literal.
abbrev pub with_indexed : ClauseIndexView → Lit → IndexedClause → ClauseIndexView
with_indexed files l f = record { vars = files.vars; lists = slice_set files.lists (code_of l) (slice_index_or files.lists (code_of l) [] ++ f ∷ []); unkeyed = files.unkeyed }

-- The index with one more clause under no literal.
abbrev pub with_unkeyed : ClauseIndexView → ℕ → ClauseIndexView
with_unkeyed files n = record { vars = files.vars; lists = files.lists; unkeyed = files.unkeyed ++ n ∷ [] }

-- Whether the clause may be filed under its literal at this place: the variable is one of 1 to `vars` and has 32 bits.
abbrev pub IsKey : ℕ → List Lit → ℕ → Type 0
IsKey vars clause k = (k < length clause) × LitWithin vars (slice_index_or clause k zero_lit) × ((slice_index_or clause k zero_lit).var < 2 ^ 32)

-- Whether exactly these clauses are filed: for literals that all pass the test `used`, a search finds a clause exactly if one of
-- these is a subset of the literals.
abbrev pub IsClauseIndex : (Lit → Bool) → List (List Lit) → ClauseIndexView → List (List Lit) → Type 0
IsClauseIndex used all files clauses = (lits : List Lit) → list_all used lits ≡ true → has_indexed_within all files lits ≡ not (is_fresh clauses lits)
