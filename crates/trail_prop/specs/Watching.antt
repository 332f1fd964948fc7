-- The invariant of watching two literals of each clause. The entries before the head have been propagated.
use Rattle.std.specs.Prelude.{ℕ, ◌≡◌, ◌≢◌, ◌+◌, ◌-◌, ◌*◌, ◌/◌, ◌%◌, ◌^◌, ◌<◌, ◌≤◌, ◌==◌, ◌⊎◌, true, List, [], ◌∷◌, length, count_by, slice_index_or}
use Rattle.std.specs.List.{All}
use Rattle.clause_db.specs.declared.lit.Lit.{Lit}
use Rattle.clause_db.specs.Clause.{opposite, has_lit, neg_lit, code_of}
use Rattle.clause_db.specs.Clauses.{LitWithin, ClausesWithin}
use Rattle.trail_prop.specs.declared.entry.TrailEntry.{TrailEntry}
use Rattle.trail_prop.specs.declared.watch_update.WatchPlaces.{WatchPlaces}
use Rattle.trail_prop.specs.declared.watches.Watch.{Watch}
use Rattle.trail_prop.specs.Entries.{IsTrailEntry}
use Rattle.trail_prop.specs.Trails.{TrailView}

-- The literal of a code.
abbrev pub lit_of : ℕ → Lit
lit_of c = record { var = c / 2 + 1; positive = c % 2 == 0 }

-- The literal at a place, from 0.
abbrev pub lit_at : List Lit → ℕ → Lit
lit_at clause i = slice_index_or clause i (neg_lit 0)

-- The clause at a place, from 0.
abbrev pub clause_of : List (List Lit) → ℕ → List Lit
clause_of list k = slice_index_or list k []

-- The watches of a literal.
abbrev pub watches_at : List (List Watch) → Lit → List Watch
watches_at lists l = slice_index_or lists (code_of l) []

-- The watched places of the clause at a place, from 0.
abbrev pub places_of : List WatchPlaces → ℕ → WatchPlaces
places_of places k = slice_index_or places k (record { first = 0; second = 0 })

-- Whether the literal is the opposite of the entry at the head, and this entry is of the last level.
abbrev pub IsHeadOpposite : List TrailEntry → ℕ → ℕ → Lit → Type 0
IsHeadOpposite entries head level gone = (e : TrailEntry) × IsTrailEntry entries head e × (e.lit ≡ opposite gone) × (level ≤ e.level)

-- Whether some literal of the clause is known to be true.
abbrev pub HasTrue : List Lit → List Lit → Type 0
HasTrue known clause = (l : Lit) × (has_lit clause l ≡ true) × (has_lit known l ≡ true)

-- Whether some literal of the clause is true by an entry of level 0.
abbrev pub IsFixed : List TrailEntry → List Lit → Type 0
IsFixed entries clause = (j : ℕ) × (t : TrailEntry) × IsTrailEntry entries j t × (has_lit clause t.lit ≡ true) × (t.level ≡ 0)

-- Whether a watched literal is safe: if an entry before the head made it false, some literal of the clause is true by an entry whose
-- level is not above that entry's.
abbrev pub IsSafe : List TrailEntry → ℕ → List Lit → Lit → Type 0
IsSafe entries head clause l = (k : ℕ) (e : TrailEntry) → k < head → IsTrailEntry entries k e → e.lit ≡ opposite l → (j : ℕ) × (t : TrailEntry) × IsTrailEntry entries j t × (has_lit clause t.lit ≡ true) × (t.level ≤ e.level)

-- How many of the watches are of the clause of this number.
abbrev pub watches_of : ℕ → List Watch → ℕ
watches_of n ws = count_by (λ w. w.clause == n) ws

-- Whether the list of a code has a watch at a place.
pub record IsListed (lists : List (List Watch)) (code at : ℕ) : Type 0 where
  -- the code has a list
  pub list : code < length lists
  -- and the list is long enough
  pub place : at < length (slice_index_or lists code [])

-- Whether the clause of this number watches its literal at a place.
pub record IsGuarded (entries : List TrailEntry) (head : ℕ) (lists : List (List Watch)) (n : ℕ) (clause : List Lit) (i : ℕ) : Type 0 where
  pub within : i < length clause
  pub safe : IsSafe entries head clause (lit_at clause i)
  pub held : 0 < watches_of n (watches_at lists (lit_at clause i))

-- Whether the clause watches two different literals.
pub record IsWatched (entries : List TrailEntry) (head : ℕ) (lists : List (List Watch)) (n : ℕ) (clause : List Lit) (p : WatchPlaces) : Type 0 where
  pub first : IsGuarded entries head lists n clause p.first
  pub second : IsGuarded entries head lists n clause p.second
  pub apart : lit_at clause p.first ≢ lit_at clause p.second

-- Whether the clause has these two literals and no others.
abbrev pub IsPair : List Lit → Lit → Lit → Type 0
IsPair clause l m = (clause ≡ l ∷ m ∷ []) ⊎ (clause ≡ m ∷ l ∷ [])

-- A watch of this literal: its clause is in the list, its blocker is a literal of the clause, and a pair has no other literals than
-- these.
pub record WatchFits (list : List (List Lit)) (l : Lit) (w : Watch) : Type 0 where
  pub from_one : 1 ≤ w.clause
  pub to_last : w.clause ≤ length list
  pub blocks : has_lit (clause_of list (w.clause - 1)) (lit_of w.blocker) ≡ true
  pub pairs : w.pair ≡ true → IsPair (clause_of list (w.clause - 1)) l (lit_of w.blocker)

-- The view of watched clauses: the trail, the watches of each literal by its code, the watched places of each clause, the numbers
-- of the pending clauses, and the number of propagated entries.
pub record WatchView : Type 0 where
  pub trail : TrailView
  pub lists : List (List Watch)
  pub places : List WatchPlaces
  pub pending : List ℕ
  pub head : ℕ

-- The number of one of `count` clauses.
pub record IsNumber (count n : ℕ) : Type 0 where
  -- numbers begin at 1
  pub from_one : 1 ≤ n
  -- and end with the last clause
  pub to_last : n ≤ count

-- Whether the literal's watch at a place is of the clause of this number.
pub record IsWatchOf (v : WatchView) (l : Lit) (at n : ℕ) : Type 0 where
  -- the literal's variable is one of the trail's
  pub within : LitWithin v.trail.clauses.vars l
  -- the literal has a watch at the place
  pub place : at < length (watches_at v.lists l)
  -- and the watch is of the clause
  pub clause : (d : Watch) → (slice_index_or (watches_at v.lists l) at d).clause ≡ n

-- Whether the clause of this number is the pending one at a place.
pub record IsPendingAt (v : WatchView) (at n : ℕ) : Type 0 where
  -- a clause is pending at the place
  pub place : at < length v.pending
  -- and it has this number
  pub number : n ≡ slice_index_or v.pending at n

-- How often the clause of this number is pending.
abbrev pub pending_count : ℕ → List ℕ → ℕ
pending_count n pending = count_by (λ m. m == n) pending

-- Whether the clause at a place is pending, true at level 0, or watched.
abbrev pub IsAccountedFor : WatchView → ℕ → Type 0
IsAccountedFor v k = (0 < pending_count (k + 1) v.pending) ⊎ (IsFixed v.trail.entries (clause_of v.trail.clauses.list k) ⊎ IsWatched v.trail.entries v.head v.lists (k + 1) (clause_of v.trail.clauses.list k) (places_of v.places k))

-- Whether each number is one of `count` clauses.
abbrev pub AreClauseNumbers : ℕ → List ℕ → Type 0
AreClauseNumbers count pending = All (IsNumber count) pending

-- Whether all of `count` clauses are pending.
abbrev pub AllPending : ℕ → List ℕ → Type 0
AllPending count pending = AreClauseNumbers count pending × ((k : ℕ) → k < count → 0 < pending_count (k + 1) pending)

-- The invariant of watched clauses: every clause is pending, true at level 0, or watched, and the numbers are in range.
pub record IsWatchInvariant (v : WatchView) : Type 0 where
  pub small : v.trail.clauses.vars < 2 ^ 32
  pub within : ClausesWithin v.trail.clauses.vars v.trail.clauses.list
  pub head : v.head ≤ length v.trail.entries
  pub sized : length v.places ≡ length v.trail.clauses.list
  pub listed : length v.lists ≡ 2 * v.trail.clauses.vars
  pub numbers : AreClauseNumbers (length v.trail.clauses.list) v.pending
  pub fits : (l : Lit) → LitWithin v.trail.clauses.vars l → All (WatchFits v.trail.clauses.list l) (watches_at v.lists l)
  pub accounted_for : (k : ℕ) → k < length v.trail.clauses.list → IsAccountedFor v k
