-- What a walk finds in its map, what a step leads to, and how a walk ends.
use Rattle.std.specs.Prelude.{ℕ, true, false, ◌≡◌, ◌≢◌, ◌<◌, ◌+◌, List, length, map}
use Rattle.pack_defs.specs.Book.{BookView, domain_of}
use Rattle.pack_defs.specs.Lists.{has_entry}
use Rattle.cert_types.specs.Refutes.{is_dead}
use Rattle.cert_types.specs.Moves.{has_violation, violates_some}
use Rattle.walk_repack.specs.WalkState.{WalkStateView}
use Rattle.walk_repack.specs.declared.map_status.MapStatus.{MapStatus}
use Rattle.walk_repack.specs.declared.map_status.MapStatus.TheVariants as sight
use Rattle.walk_repack.specs.declared.steps.WalkStep.{WalkStep}
use Rattle.walk_repack.specs.declared.steps.WalkStep.TheVariants as step
use Rattle.walk_repack.specs.declared.steps.WalkEnd.{WalkEnd}
use Rattle.walk_repack.specs.declared.steps.WalkEnd.TheVariants as outcome

-- The stations of a map.
abbrev pub map_stations : List (ℕ × ℕ) → List ℕ
map_stations entries = map (λ x. x.0) entries

-- The station is of a violated pair, is on this channel, and has another channel in its domain.
pub record CanMove (book : BookView) (entries : List (ℕ × ℕ)) (s own : ℕ) : Type 0 where
  pub violating : has_violation book entries s ≡ true
  pub stands : has_entry entries (s, own) ≡ true
  pub choice : 1 < length (domain_of book s)

-- What a walk finds in a map: no pair is violated, a violated pair has stations that can't move, or this station can move.
abbrev pub MapStatusIs : BookView → List (ℕ × ℕ) → MapStatus → Type 0
MapStatusIs book entries sight.Clean = violates_some book entries ≡ false
MapStatusIs book entries (sight.Dead p) = is_dead book (map_stations entries) p ≡ true
MapStatusIs book entries (sight.Open s own) = CanMove book entries s own

-- What one step leads to: no pair is violated, a pair is dead, or one more move is made.
abbrev pub WalkStepIs : WalkStateView → WalkStateView → WalkStep → Type 0
WalkStepIs earlier later step.Clean = (violates_some later.book later.entries ≡ false) × (later.moves ≡ earlier.moves)
WalkStepIs earlier later (step.Dead p) = is_dead later.book (map_stations later.entries) p ≡ true
WalkStepIs earlier later step.Made = length later.moves ≡ length earlier.moves + 1

-- How a walk ends for a query of this number, with this budget of moves; `last` is the poll's latest answer.
abbrev pub WalkEndIs : WalkStateView → ℕ → ℕ → ℕ → WalkEnd → Type 0
WalkEndIs v budget number last outcome.Clean = violates_some v.book v.entries ≡ false
WalkEndIs v budget number last (outcome.Dead p) = is_dead v.book (map_stations v.entries) p ≡ true
WalkEndIs v budget number last outcome.Spent = (violates_some v.book v.entries ≡ true) × (length v.moves ≡ budget)
WalkEndIs v budget number last (outcome.Moved now) = (last ≡ now) × (now ≢ number)
