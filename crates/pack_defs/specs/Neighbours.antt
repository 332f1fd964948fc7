-- The lists of neighbours that a book stores besides its pairs. They are no part of the book's meaning.
use Rattle.std.specs.Prelude.{◌≡◌, ℕ, ◌==◌, ◌&&◌, ◌||◌, List, map, IsTrue}
use Rattle.std.specs.List.{list_any}
use Rattle.pack_defs.specs.declared.pair.Pair.{Pair}
use Rattle.pack_defs.specs.Book.{BookView, stations_of}
use Rattle.pack_defs.specs.Components.{neighbours_of}
use Rattle.pack_defs.specs.Lists.{is_ascending, is_in}

-- The neighbours of each station, in the order of the stations.
abbrev pub lists_for : BookView → List (List ℕ)
lists_for book = map (λ s. neighbours_of book s) (stations_of book)

-- The new list ascends, and has exactly the numbers of the old list and of `more`.
pub record HasInserted (old more new : List ℕ) : Type 0 where
  pub ascends : IsTrue (is_ascending new)
  pub same : (t : ℕ) → is_in new t ≡ (is_in old t || is_in more t)

-- The list ascends, and has exactly the stations that share a pair with this one.
pub record IsListFor (pairs : List Pair) (s : ℕ) (near : List ℕ) : Type 0 where
  pub ascends : IsTrue (is_ascending near)
  pub same : (t : ℕ) → is_in near t ≡ list_any (λ p. ((p.f == s) && (p.g == t)) || ((p.f == t) && (p.g == s))) pairs
