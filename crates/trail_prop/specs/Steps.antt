-- What the steps of propagation over watched clauses leave.
use Rattle.std.specs.Prelude.{ℕ, ◌≡◌, ◌+◌, ◌-◌, ◌*◌, ◌<◌, ◌≤◌, false, List, Option, Some, None, length, take, slice_set, slice_index_or}
use Rattle.std.specs.List.{All}
use Rattle.clause_db.specs.declared.lit.Lit.{Lit}
use Rattle.clause_db.specs.Clause.{clause_at, code_of}
use Rattle.clause_db.specs.Clauses.{LitWithin}
use Rattle.trail_prop.specs.declared.entry.TrailEntry.{TrailEntry}
use Rattle.trail_prop.specs.declared.watches.Watch.{Watch}
use Rattle.trail_prop.specs.declared.plain.PropagationStep.{PropagationStep}
use Rattle.trail_prop.specs.declared.plain.PropagationStep.TheVariants.{Found, Quiet, Moved}
use Rattle.trail_prop.specs.declared.propagate.WatchOutcome.{WatchOutcome}
use Rattle.trail_prop.specs.declared.propagate.WatchOutcome.TheVariants.{False, Stays, Leaves}
use Rattle.trail_prop.specs.Entries.{lits_of, IsTrailEntry}
use Rattle.trail_prop.specs.Open.{IsComplete, IsClauseSettled}
use Rattle.trail_prop.specs.Trails.{TrailView, IsFalseAt, Grows}
use Rattle.trail_prop.specs.Watching.{WatchView, WatchFits, HasTrue, clause_of, watches_at}

-- The watched clauses with another trail.
abbrev pub with_trail : WatchView → TrailView → WatchView
with_trail v trail = record { trail = trail; lists = v.lists; places = v.places; pending = v.pending; head = v.head }

-- The watched clauses with other watches of a literal.
abbrev pub with_watch_list : WatchView → Lit → List Watch → WatchView
with_watch_list v l ws = record { trail = v.trail; lists = slice_set v.lists (code_of l) ws; places = v.places; pending = v.pending; head = v.head }

-- Whether the clause of the watch has a true literal.
abbrev pub IsWatchHeld : WatchView → Watch → Type 0
IsWatchHeld v w = HasTrue (lits_of v.trail.entries) (clause_of v.trail.clauses.list (w.clause - 1))

-- Whether the clauses of the literal's first `at` watches each have a true literal.
abbrev pub AreHeld : WatchView → Lit → ℕ → Type 0
AreHeld v gone at = All (IsWatchHeld v) (take at (watches_at v.lists gone))

-- The watch to visit next, in the list of a literal that became false.
pub record IsNextWatch (v : WatchView) (gone : Lit) (at : ℕ) (w : Watch) : Type 0 where
  -- the literal has a watch at the place
  pub place : at < length (watches_at v.lists gone)
  -- and it is this one
  pub watch : w ≡ slice_index_or (watches_at v.lists gone) at w
  -- the watch is of a clause of the trail, and names one of its literals
  pub fits : WatchFits v.trail.clauses.list gone w
  -- the clauses of the watches before the place are done
  pub held : AreHeld v gone at

-- A watch to visit next whose clause must be read, since it may have more than two literals.
pub record IsNextLong (v : WatchView) (gone : Lit) (at : ℕ) (w : Watch) : Type 0 where
  -- the literal's variable is one of the trail's
  pub within : LitWithin v.trail.clauses.vars gone
  -- it is the watch to visit next
  pub next : IsNextWatch v gone at w
  -- the watch does not mark its clause as a pair
  pub long : w.pair ≡ false

-- Whether one watch of a literal is removed, at or after the place, and the trail stays.
pub record Shrinks (old new : WatchView) (gone : Lit) (at : ℕ) : Type 0 where
  pub trail : new.trail ≡ old.trail
  pub head : new.head ≡ old.head
  pub kept : take at (watches_at new.lists gone) ≡ take at (watches_at old.lists gone)
  pub left : length (watches_at new.lists gone) + 1 ≡ length (watches_at old.lists gone)

-- What happened to the watch at a place. The ones before it stay.
abbrev pub WatchOutcomeIs : WatchView → WatchView → Lit → ℕ → WatchOutcome → Type 0
WatchOutcomeIs old new gone at (False conflict) = IsFalseAt (lits_of new.trail.entries) (clause_at new.trail.clauses.list conflict.clause)
WatchOutcomeIs old new gone at Stays = AreHeld new gone (at + 1) × (length (watches_at new.lists gone) ≡ length (watches_at old.lists gone))
WatchOutcomeIs old new gone at Leaves = AreHeld new gone at × (length (watches_at new.lists gone) + 1 ≡ length (watches_at old.lists gone))

-- Whether this is the entry at the head, or the head is after the last entry.
abbrev pub NextIs : WatchView → Option TrailEntry → Type 0
NextIs v None = v.head ≡ length v.trail.entries
NextIs v (Some e) = IsTrailEntry v.trail.entries v.head e × LitWithin v.trail.clauses.vars e.lit

-- What a step says: a false clause was found; no clause is false and none forces a literal; or the head moved or the trail grew.
abbrev pub PropagationStepIs : WatchView → WatchView → PropagationStep → Type 0
PropagationStepIs old new (Found conflict) = IsFalseAt (lits_of new.trail.entries) (clause_at new.trail.clauses.list conflict.clause)
PropagationStepIs old new Quiet = IsComplete new.trail.clauses.list (lits_of new.trail.entries)
PropagationStepIs old new Moved = (length old.trail.entries + old.head < length new.trail.entries + new.head) × (length new.trail.entries + new.head ≤ 2 * new.trail.clauses.vars)

-- What stays true while the watches of a literal are visited, up to a place.
pub record VisitKeeps (old new : WatchView) (gone : Lit) (at : ℕ) : Type 0 where
  -- the clauses stay
  pub clauses : new.trail.clauses ≡ old.trail.clauses
  -- the head stays
  pub head : new.head ≡ old.head
  -- only forced entries are appended
  pub grows : Grows old.trail.entries new.trail.entries
  -- the clauses of the watches before the place are done
  pub held : AreHeld new gone at

-- What stays true while the pending clauses, `many` at the start, are visited, up to a place.
pub record PendingScanKeeps (old new : WatchView) (at many : ℕ) : Type 0 where
  -- as many are pending as at the start
  pub count : many ≡ length new.pending
  -- the clauses stay
  pub clauses : new.trail.clauses ≡ old.trail.clauses
  -- the head stays
  pub head : new.head ≡ old.head
  -- only forced entries are appended
  pub grows : Grows old.trail.entries new.trail.entries
  -- while no entry is appended, no clause before the place is false or forces a literal
  pub quiet : length new.trail.entries ≡ length old.trail.entries → All (λ (n : ℕ). IsClauseSettled (lits_of new.trail.entries) (clause_of new.trail.clauses.list (n - 1))) (take at new.pending)
