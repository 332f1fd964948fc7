-- What a book stores besides its domains and pairs, for fast lookup. None of this is part of the book's meaning.
use Rattle.std.specs.Prelude.{◌≡◌, ◌≤◌, ℕ, List, length}
use Rattle.pack_defs.specs.Limits.{MOST_STATIONS}
use Rattle.pack_defs.specs.declared.pair.Pair.{Pair}
use Rattle.pack_defs.specs.Book.{BookView, IsInOrder}
use Rattle.pack_defs.specs.Neighbours.{lists_for}
use Rattle.pack_defs.specs.PairOrders.{IsBySecond}

-- The book is in order, has no more stations than a scenario may have, and stores these lists: its pairs by second station, and the
-- neighbours of each station.
abbrev pub IsBookWith : BookView → List Pair → List (List ℕ) → Type 0
IsBookWith book by_second near =
    IsInOrder book × (length book.domains ≤ MOST_STATIONS) × IsBySecond book.pairs by_second × (near ≡ lists_for book)
