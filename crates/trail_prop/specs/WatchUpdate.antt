-- What a clause does when one of its watched literals becomes false.
use Rattle.std.specs.Prelude.{ℕ, ◌≡◌, ◌≢◌, ◌<◌, ◌⊎◌, true, false, List, length, Option, Some, None}
use Rattle.clause_db.specs.declared.lit.Lit.{Lit}
use Rattle.clause_db.specs.Clause.{opposite, has_lit}
use Rattle.clause_db.specs.Forced.{is_false_clause, forced_by}
use Rattle.trail_prop.specs.declared.watch_update.WatchPlaces.{WatchPlaces}
use Rattle.trail_prop.specs.declared.watch_update.Sides.{Sides}
use Rattle.trail_prop.specs.declared.watch_update.Moved.{Moved}
use Rattle.trail_prop.specs.declared.watch_update.WatchUpdate.{WatchUpdate}
use Rattle.trail_prop.specs.declared.watch_update.WatchUpdate.TheVariants.{Holds, Moves, Leaves, Lost}
use Rattle.trail_prop.specs.Open.{is_open}
use Rattle.trail_prop.specs.Watching.{lit_at}

-- Whether the place is one of the two.
abbrev pub IsOneOf : ℕ → WatchPlaces → Type 0
IsOneOf i p = (i ≡ p.first) ⊎ (i ≡ p.second)

-- Whether these are two places of the clause, the first with the literal.
abbrev pub SidesAre : List Lit → WatchPlaces → Lit → Option Sides → Type 0
SidesAre clause p gone None = Unit {0}
SidesAre clause p gone (Some s) = (s.mine < length clause) × (s.other < length clause) × (lit_at clause s.mine ≡ gone) × IsOneOf s.other p

-- Whether all literals of the clause except this one are false. If this one is false too, so is the clause; without a value, it is
-- forced.
pub record AllButOneFalse (known clause : List Lit) (l : Lit) : Type 0 where
  pub has : has_lit clause l ≡ true
  pub fails : has_lit known (opposite l) ≡ true → is_false_clause known clause ≡ true
  pub forces : is_open known l ≡ true → forced_by known clause ≡ Some l

-- Whether the clause may watch the new place, whose literal is not false, and still watches one of the old places.
pub record IsWatchMove (known clause : List Lit) (p : WatchPlaces) (gone : Lit) (m : Moved) : Type 0 where
  pub new_within : m.places.first < length clause
  pub old_within : m.places.second < length clause
  pub lit : m.lit ≡ lit_at clause m.places.first
  pub other : m.other ≡ lit_at clause m.places.second
  pub apart : m.lit ≢ m.other
  pub stays : m.other ≢ gone
  pub old : IsOneOf m.places.second p
  pub not_false : has_lit known (opposite m.lit) ≡ false

-- What the turn of a clause says: its other watched literal is true, it can watch another place, all its other literals are false,
-- or nothing.
abbrev pub WatchUpdateIs : List Lit → List Lit → WatchPlaces → Lit → WatchUpdate → Type 0
WatchUpdateIs known clause p gone (Holds l) = (has_lit clause l ≡ true) × (has_lit known l ≡ true)
WatchUpdateIs known clause p gone (Moves m) = IsWatchMove known clause p gone m
WatchUpdateIs known clause p gone (Leaves l) = AllButOneFalse known clause l × (has_lit known l ≡ false)
WatchUpdateIs known clause p gone Lost = Unit {0}
