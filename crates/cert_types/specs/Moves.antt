-- When the moves of a walk over channel maps show that a worker has spent its budget. Repairing a map by moving one station of a
-- violated pair at a time is the local search of SATFC (Newman, Fréchette, Leyton-Brown 2017). The start map, and that a budget
-- counts moves, are this project's own.
use Rattle.std.specs.Prelude.{ℕ, Bool, true, false, not, ◌≡◌, ◌&&◌, ◌+◌, if◌then◌else◌, List, [], ◌∷◌, map, Option, Some, None, unwrap_or}
use Rattle.std.specs.List.{list_any}
use Rattle.pack_defs.specs.Book.{BookView, domain_of}
use Rattle.pack_defs.specs.ChannelMap.{channel_of, put}
use Rattle.pack_defs.specs.Lists.{is_in, has_entry}
use Rattle.assign_check.specs.Fault.{is_violated}
use Rattle.assign_check.specs.Assignment.{is_of}

-- The least number of an ascending list, or 0 if the list is empty.
abbrev pub least_of : List ℕ → ℕ
least_of [] = 0
least_of (c ∷ cs) = c

-- The map that a walk starts from: each station of the set is on its channel in the last map, or else on the least channel of its
-- domain.
abbrev pub start_map : BookView → List (ℕ × ℕ) → List ℕ → List (ℕ × ℕ)
start_map book last set = map (λ s. (s, unwrap_or (channel_of s last) (least_of (domain_of book s)))) set

-- Whether some pair of the book has both its entries in the map.
abbrev pub violates_some : BookView → List (ℕ × ℕ) → Bool
violates_some book entries = list_any (is_violated entries) book.pairs

-- Whether some pair of the station has both its entries in the map.
abbrev pub has_violation : BookView → List (ℕ × ℕ) → ℕ → Bool
has_violation book entries s = list_any (λ p. is_of s p && is_violated entries p) book.pairs

-- Whether a move puts a station of a violated pair on another channel of its domain. The new map may violate more pairs, and may be one
-- in which the walk was before.
abbrev pub is_move : BookView → List (ℕ × ℕ) → ℕ × ℕ → Bool
is_move book entries x =
    has_violation book entries x.0 && (is_in (domain_of book x.0) x.1 && not (has_entry entries x))

-- The place of the first invalid move, counted from this place. A move is invalid if it is not a move of this map, or if no pair is
-- violated after it. Each move is checked in the map that the moves before it leave.
abbrev pub first_move : BookView → List (ℕ × ℕ) → ℕ → List (ℕ × ℕ) → Option ℕ
first_move book entries place [] = None
first_move book entries place (x ∷ xs) =
    if is_move book entries x && violates_some book (put x entries)
    then first_move book (put x entries) (place + 1) xs
    else Some place

-- ---- the same as plain statements

-- A valid move of a receipt: its station is in a violated pair, its channel is another one of the domain, and some pair is still
-- violated after the move.
pub record IsSpentMove (book : BookView) (entries : List (ℕ × ℕ)) (x : ℕ × ℕ) : Type 0 where
  pub violating : has_violation book entries x.0 ≡ true
  pub on_domain : is_in (domain_of book x.0) x.1 ≡ true
  pub elsewhere : has_entry entries x ≡ false
  pub still : violates_some book (put x entries) ≡ true

-- Whether each move is a valid move of a receipt, in the map that the moves before it leave.
abbrev pub AreSpentMoves : BookView → List (ℕ × ℕ) → List (ℕ × ℕ) → Type 0
AreSpentMoves book entries [] = Unit {0}
AreSpentMoves book entries (x ∷ xs) = IsSpentMove book entries x × AreSpentMoves book (put x entries) xs
