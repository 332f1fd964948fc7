-- The entries of a trail, and the literals that they make true.
use Rattle.std.specs.Prelude.{ℕ, ◌≡◌, ◌+◌, ◌*◌, ◌-◌, ◌^◌, ◌<◌, ◌≤◌, length, Bool, true, false, List, [], ◌∷◌, ◌++◌, map, count_by, is_none, slice_index_or}
use Rattle.clause_db.specs.declared.lit.Lit.{Lit}
use Rattle.clause_db.specs.Clause.{code_of, has_lit}
use Rattle.clause_db.specs.Clauses.{LitWithin}
use Rattle.trail_prop.specs.Open.{is_open}
use Rattle.trail_prop.specs.declared.entry.TrailEntry.{TrailEntry}

-- The literals of the entries, in order.
abbrev pub lits_of : List TrailEntry → List Lit
lits_of entries = map (λ e. e.lit) entries

-- Whether no clause forced the entry.
abbrev pub is_decision : TrailEntry → Bool
is_decision e = is_none e.reason

-- The number of decisions.
abbrev pub level_of : List TrailEntry → ℕ
level_of entries = count_by is_decision entries

-- Whether each entry's variable is one of 1 to `vars`, and has no value by the entries before it: those in `before` and the earlier
-- ones here.
abbrev pub EachOpens : ℕ → List TrailEntry → List TrailEntry → Type 0
EachOpens vars before [] = Unit {0}
EachOpens vars before (e ∷ es) = (LitWithin vars e.lit) × (is_open (lits_of before) e.lit ≡ true) × EachOpens vars (before ++ e ∷ []) es

-- Whether the marks record which literals of the variables are known.
abbrev pub MarksSay : ℕ → List Bool → List Lit → Type 0
MarksSay vars marks known = (l : Lit) → LitWithin vars l → slice_index_or marks (code_of l) false ≡ has_lit known l

-- Whether this is the entry at place `k`.
abbrev pub IsTrailEntry : List TrailEntry → ℕ → TrailEntry → Type 0
IsTrailEntry entries k e = (k < length entries) × (slice_index_or entries k e ≡ e)

-- Whether this is an entry of the variable.
abbrev pub IsEntryOf : List TrailEntry → ℕ → TrailEntry → Type 0
IsEntryOf entries var e = (k : ℕ) × IsTrailEntry entries k e × (e.lit.var ≡ var)

-- Whether the index has, for each variable with an entry, the place of the entry.
abbrev pub AreIndexed : List ℕ → List TrailEntry → Type 0
AreIndexed index entries = (k : ℕ) (e : TrailEntry) → IsTrailEntry entries k e → slice_index_or index (e.lit.var - 1) 0 ≡ k

-- The number of variables, and the entries in order.
pub record Assigned : Type 0 where
  pub vars : ℕ
  pub entries : List TrailEntry

-- The invariant of an assignment: its entries, a mark for each literal, the place of each variable's entry, and the reserved
-- memory.
pub record AssignmentHolds (vars : ℕ) (entries : List TrailEntry) (marks : List Bool) (index : List ℕ) (capacity : ℕ) : Type 0 where
  -- each entry's variable had no value before
  pub opens : EachOpens vars [] entries
  -- the marks record which literals are true
  pub marked : MarksSay vars marks (lits_of entries)
  -- each literal has a mark
  pub size : length marks ≡ 2 * vars
  -- an entry of each variable can be appended without new memory
  pub room : vars ≤ capacity
  -- codes and places fit into machine numbers
  pub small : vars < 2 ^ 32
  -- the places are those of the entries
  pub indexed : AreIndexed index entries
  -- each variable has a place
  pub places : length index ≡ vars

-- Whether the literal's code fits into a machine number.
pub record HasCode (l : Lit) : Type 0 where
  -- variables are counted from 1
  pub from_one : 1 ≤ l.var
  -- a trail has fewer variables than this
  pub small : l.var < 2 ^ 32
