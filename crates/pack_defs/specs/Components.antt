-- The component of a station in a set: the stations that it reaches by pairs of the book. Testing only the component of the asked station
-- comes from the SATFC papers, which take the connected components of the interference graph.
use Rattle.std.specs.Prelude.{◌≡◌, ℕ, zero, suc, Bool, true, ◌&&◌, ◌||◌, ◌==◌, List, length, filter, Contains}
use Rattle.std.specs.List.{list_any}
use Rattle.pack_defs.specs.Lists.{is_in}
use Rattle.pack_defs.specs.Book.{BookView, stations_of}

-- Whether the book has a pair of these two stations (an edge of the interference graph).
abbrev pub interferes : BookView → ℕ → ℕ → Bool
interferes book s t = list_any (λ p. ((p.f == s) && (p.g == t)) || ((p.f == t) && (p.g == s))) book.pairs

-- The stations of the book that interfere with a station, ascending (its neighbours in the interference graph).
abbrev pub neighbours_of : BookView → ℕ → List ℕ
neighbours_of book s = filter (λ t. interferes book s t) (stations_of book)

-- The stations of the set that are among the given ones or interfere with one of them.
abbrev pub widened : BookView → List ℕ → List ℕ → List ℕ
widened book set among = filter (λ t. is_in among t || list_any (λ s. interferes book s t) among) set

-- The stations of the set that s reaches in at most n steps.
abbrev pub within : BookView → List ℕ → ℕ → ℕ → List ℕ
within book set s zero = filter (λ t. t == s) set
within book set s (suc n) = widened book set (within book set s n)

-- The component of s: the stations that s reaches in as many steps as the set has stations, in the set's order (a connected component of
-- the interference graph).
unfoldable pub component : BookView → List ℕ → ℕ → List ℕ
component book set s = within book set s (length set)

-- s reaches t in the set: t is s, or a station of the set that interferes with a station that s reaches.
pub data Reaches (book : BookView) (set : List ℕ) (s : ℕ) : ℕ → Type 0 where
  here : Reaches book set s s
  next : {t u : ℕ} → Reaches book set s t → Contains set u → interferes book t u ≡ true → Reaches book set s u
