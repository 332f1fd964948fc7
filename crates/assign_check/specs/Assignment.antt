-- The number of pairs of the book that a channel map violates.
use Rattle.std.specs.Prelude.{ℕ, Bool, ◌≡◌, ◌<◌, ◌^◌, ◌&&◌, ◌||◌, ◌==◌, List, count_by, length}
use Rattle.pack_defs.specs.declared.pair.Pair.{Pair}
use Rattle.pack_defs.specs.Book.{BookView}
use Rattle.pack_defs.specs.ChannelMap.{IsAscending}
use Rattle.assign_check.specs.Fault.{is_violated}

-- Whether the pair is of this station.
abbrev pub is_of : ℕ → Pair → Bool
is_of s p = (p.f == s) || (p.g == s)

-- The number of pairs of the book that have both entries in the map.
abbrev pub violations : BookView → List (ℕ × ℕ) → ℕ
violations book entries = count_by (is_violated entries) book.pairs

-- The number of these that are of this station.
abbrev pub violations_of : BookView → List (ℕ × ℕ) → ℕ → ℕ
violations_of book entries s = count_by (λ p. is_of s p && is_violated entries p) book.pairs

-- A channel map, and the book whose pairs it may violate.
pub record AssignmentView : Type 0 where
  pub book : BookView
  pub entries : List (ℕ × ℕ)

-- Whether the map ascends and violates this many pairs, and the book has fewer than 2^63 pairs, as one in memory has.
pub record IsCounted (book : BookView) (entries : List (ℕ × ℕ)) (count : ℕ) : Type 0 where
  pub ascending : IsAscending entries
  pub violated : count ≡ violations book entries
  pub few : length book.pairs < 2 ^ 63
