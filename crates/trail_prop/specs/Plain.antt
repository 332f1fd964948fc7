-- The result of one pass over the clauses.
use Rattle.std.specs.Prelude.{ℕ, ◌≡◌, ◌<◌, ◌≤◌, Bool, true, false, length, List, [], slice_index_or}
use Rattle.clause_db.specs.Clause.{clause_at}
use Rattle.clause_db.specs.Clauses.{Clauses}
use Rattle.trail_prop.specs.Open.{IsComplete, IsClauseSettled}
use Rattle.trail_prop.specs.declared.entry.TrailEntry.{TrailEntry}
use Rattle.trail_prop.specs.declared.plain.PropagationStep.{PropagationStep}
use Rattle.trail_prop.specs.declared.plain.PropagationStep.TheVariants.{Found, Quiet, Moved}
use Rattle.trail_prop.specs.Entries.{lits_of}
use Rattle.trail_prop.specs.Trails.{IsFalseAt, Grows, TrailView}

-- What the result says: a false clause; that no clause is false and none forces a literal; or that the trail grew.
abbrev pub PassIs : Clauses → List TrailEntry → List TrailEntry → PropagationStep → Type 0
PassIs clauses earlier later (Found conflict) = IsFalseAt (lits_of later) (clause_at clauses.list conflict.clause)
PassIs clauses earlier later Quiet = IsComplete clauses.list (lits_of later)
PassIs clauses earlier later Moved = (length earlier < length later) × (length later ≤ clauses.vars)

-- What a pass over `many` clauses keeps while the clauses before the place `at` have been visited. `moved` is whether the trail
-- grew.
pub record PassKeeps (old new : TrailView) (moved : Bool) (at many : ℕ) : Type 0 where
  -- there are this many clauses
  pub count : many ≡ length new.clauses.list
  -- the clauses stay
  pub clauses : new.clauses ≡ old.clauses
  -- only forced entries are appended
  pub grows : Grows old.entries new.entries
  -- while no entry is appended, no clause before the place is false or forces a literal
  pub quiet : moved ≡ false → (k : ℕ) → k < at → IsClauseSettled (lits_of new.entries) (slice_index_or new.clauses.list k [])
  -- the trail grew if `moved` is set
  pub moves : moved ≡ true → length old.entries < length new.entries
  -- and then has at most one entry for each variable
  pub room : moved ≡ true → length new.entries ≤ new.clauses.vars
