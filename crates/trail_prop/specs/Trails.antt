-- What a trail is: its clauses, and its entries in order, each a decision or forced by a clause and the entries before it.
use Rattle.std.specs.Prelude.{ℕ, ◌≡◌, ◌<◌, ◌≤◌, ◌^◌, length, Bool, true, false, nat_lt, not, List, [], ◌∷◌, ◌++◌, Option, Some, None}
use Rattle.std.specs.List.{All}
use Rattle.clause_db.specs.declared.lit.Lit.{Lit}
use Rattle.clause_db.specs.Clause.{clause_at}
use Rattle.clause_db.specs.Clauses.{Clauses, LitWithin, ClausesWithin}
use Rattle.clause_db.specs.Forced.{forced_by, is_false_clause}
use Rattle.trail_prop.specs.Open.{is_open}
use Rattle.trail_prop.specs.declared.entry.TrailEntry.{TrailEntry}
use Rattle.trail_prop.specs.Entries.{lits_of, is_decision, level_of}

-- Clauses and entries.
pub record TrailView : Type 0 where
  pub clauses : Clauses
  pub entries : List TrailEntry

-- The literal that a clause forces, or `None` if there is no clause.
abbrev pub forced_at : List Lit → Option (List Lit) → Option Lit
forced_at known None = None
forced_at known (Some clause) = forced_by known clause

-- Whether there is a clause and it is false.
abbrev pub IsFalseAt : List Lit → Option (List Lit) → Type 0
IsFalseAt known None = ⊥
IsFalseAt known (Some clause) = is_false_clause known clause ≡ true

-- Whether this is the reason of the literal: none for a decision, or else the number of a clause that forces the literal.
abbrev pub HasReason : List (List Lit) → List Lit → Lit → Option ℕ → Type 0
HasReason clauses known lit None = Unit {0}
HasReason clauses known lit (Some n) = forced_at known (clause_at clauses n) ≡ Some lit

-- An entry that may follow these: its variable is new, its level is the number of decisions up to it, and its reason forces its
-- literal.
pub record EntryFits (clauses : Clauses) (before : List TrailEntry) (e : TrailEntry) : Type 0 where
  pub within : LitWithin clauses.vars e.lit
  pub opens : is_open (lits_of before) e.lit ≡ true
  pub levels : e.level ≡ level_of (before ++ e ∷ [])
  pub reasons : HasReason clauses.list (lits_of before) e.lit e.reason

-- Whether each of these entries fits after those before it.
abbrev pub EachFits : Clauses → List TrailEntry → List TrailEntry → Type 0
EachFits clauses before [] = Unit {0}
EachFits clauses before (e ∷ es) = EntryFits clauses before e × EachFits clauses (before ++ e ∷ []) es

-- Whether the entries are a trail of the clauses.
abbrev pub IsTrail : Clauses → List TrailEntry → Type 0
IsTrail clauses entries = EachFits clauses [] entries

-- Whether the later entries are the earlier ones and then more, each forced at the same level.
pub record Grows (earlier later : List TrailEntry) : Type 0 where
  pub more : List TrailEntry
  pub follows : later ≡ earlier ++ more
  pub forced : All (λ (e : TrailEntry). (is_decision e ≡ false) × (e.level ≡ level_of earlier)) more

-- Whether the entry's level is at most this one.
abbrev pub is_up_to : ℕ → TrailEntry → Bool
is_up_to level e = not (nat_lt level e.level)

-- The invariant of a trail.
pub record TrailHolds (clauses : Clauses) (vars : ℕ) (entries : List TrailEntry) (level : ℕ) : Type 0 where
  pub same_vars : clauses.vars ≡ vars
  pub within : ClausesWithin clauses.vars clauses.list
  pub trail : IsTrail clauses entries
  pub levels : level ≡ level_of entries
  pub small : vars < 2 ^ 32

-- What the test of the last entry says: there is one, above the level; or none is above the level at the end.
abbrev pub AboveIs : ℕ → List TrailEntry → Bool → Type 0
AboveIs level entries true = (0 < length entries) × ((es : List TrailEntry) (e : TrailEntry) → entries ≡ es ++ e ∷ [] → level < e.level)
AboveIs level entries false = (es : List TrailEntry) (e : TrailEntry) → entries ≡ es ++ e ∷ [] → e.level ≤ level

-- Whether the later entries are the earlier ones without those at the end that are above the level. The last one left is not above it.
pub record IsCut (level : ℕ) (earlier later : List TrailEntry) : Type 0 where
  pub gone : List TrailEntry
  pub splits : earlier ≡ later ++ gone
  pub above : All (λ (e : TrailEntry). level < e.level) gone
  pub ends : (es : List TrailEntry) (e : TrailEntry) → later ≡ es ++ e ∷ [] → e.level ≤ level
