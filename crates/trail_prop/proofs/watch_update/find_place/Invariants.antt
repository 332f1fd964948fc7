use Rattle.std.proofs.Common.{◌≡◌, ◌≢◌, ℕ, ◌<◌, true}
use Rattle.clause_db.specs.Clause.{has_lit, opposite}
use Rattle.trail_prop.specs.Entries.{lits_of}
use Rattle.trail_prop.specs.Watching.{lit_at}
use Rattle.trail_prop.proofs.watch_update.find_place.Given as goal

abbrev pub invariant-loop-at : goal.invariant-loop-at
invariant-loop-at l = (k : ℕ) → k < l.at → k ≢ l.sides.mine → k ≢ l.sides.other → has_lit (lits_of l.assigned.entries) (opposite (lit_at l.clause k)) ≡ true
