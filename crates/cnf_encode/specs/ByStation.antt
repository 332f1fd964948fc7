-- What each station contributes to the formula of a set.
use Rattle.std.specs.Prelude.{ℕ, ◌≡◌, ◌==◌, ◌+◌, ◌*◌, ◌≤◌, List, length, take, filter, slice_index, count_by}
use Rattle.pack_defs.specs.Limits.{MOST_STATIONS}
use Rattle.pack_defs.specs.declared.pair.Pair.{Pair}
use Rattle.pack_defs.specs.Book.{BookView, stations_of}
use Rattle.pack_defs.specs.Lists.{is_in}
use Rattle.cnf_encode.specs.Formula.{variables_in}

-- Whether the stations have this many variables: at most 256 for each station of the book, and none for others. So the count is
-- bounded by the greatest number of stations of a book.
pub record IsCount (book : BookView) (stations : List ℕ) (count : ℕ) : Type 0 where
  pub exact : count ≡ variables_in book stations
  pub few : count ≤ 256 * count_by (is_in (stations_of book)) stations
  pub fits : count ≤ 256 * MOST_STATIONS

-- For each station of the set, how many variables the stations before it have, and at the end how many all have.
pub record AreOffsets (book : BookView) (set offsets : List ℕ) : Type 0 where
  pub one_more : length offsets ≡ length set + 1
  pub before : (i : ℕ) → i ≤ length set → slice_index offsets i ≡ variables_in book (take i set)

-- The pairs of the book from a station to one of the set.
abbrev pub pairs_inside_from : BookView → List ℕ → ℕ → List Pair
pairs_inside_from book set f = filter (λ p. is_in set p.g) (filter (λ p. p.f == f) book.pairs)
