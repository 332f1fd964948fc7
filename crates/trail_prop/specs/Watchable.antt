-- Which literals a clause may watch.
use Rattle.std.specs.Prelude.{ℕ, ◌≡◌, ◌≢◌, ◌<◌, ◌≤◌, ◌⊎◌, Bool, true, false, List, length, Option, Some}
use Rattle.clause_db.specs.declared.lit.Lit.{Lit}
use Rattle.clause_db.specs.Clause.{opposite, has_lit}
use Rattle.trail_prop.specs.declared.entry.TrailEntry.{TrailEntry}
use Rattle.trail_prop.specs.declared.watch_update.WatchPlaces.{WatchPlaces}
use Rattle.trail_prop.specs.Entries.{lits_of, IsTrailEntry}
use Rattle.trail_prop.specs.Watching.{IsSafe, lit_at}

-- Whether no entry has a higher level than the one that made the literal false.
abbrev pub IsLateFalse : List TrailEntry → Lit → Type 0
IsLateFalse entries l = (k : ℕ) (e : TrailEntry) → IsTrailEntry entries k e → e.lit ≡ opposite l → (j : ℕ) (t : TrailEntry) → IsTrailEntry entries j t → t.level ≤ e.level

-- Whether the literal is not false; or it became false at the last level, in a clause with a true literal.
abbrev pub IsWatchable : List TrailEntry → Bool → Lit → Type 0
IsWatchable entries holds l = (has_lit (lits_of entries) (opposite l) ≡ false) ⊎ ((holds ≡ true) × IsLateFalse entries l)

-- Whether the place has a literal that may be watched, other than `beside`.
abbrev pub IsWatchablePlace : List TrailEntry → Bool → List Lit → Option Lit → ℕ → Type 0
IsWatchablePlace entries holds clause beside i = (i < length clause) × IsWatchable entries holds (lit_at clause i) × (Some (lit_at clause i) ≢ beside)

-- Two places of a clause with different literals, both safe at any head.
pub record AreWatchable (entries : List TrailEntry) (clause : List Lit) (p : WatchPlaces) : Type 0 where
  pub first_within : p.first < length clause
  pub second_within : p.second < length clause
  pub apart : lit_at clause p.first ≢ lit_at clause p.second
  pub first_safe : (head : ℕ) → IsSafe entries head clause (lit_at clause p.first)
  pub second_safe : (head : ℕ) → IsSafe entries head clause (lit_at clause p.second)
