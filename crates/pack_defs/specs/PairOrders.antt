-- The second order in which a book stores its pairs. It is no part of the book's meaning.
use Rattle.std.specs.Prelude.{◌≡◌, ℕ, ◌==◌, List, filter}
use Rattle.std.specs.List.Sorted.{IsNonDecreasingBy}
use Rattle.pack_defs.specs.declared.pair.Pair.{Pair}

-- The sorted list has the pairs by second station, which never falls; the pairs of one second station stay in their order.
pub record IsBySecond (pairs sorted : List Pair) : Type 0 where
  pub rises : IsNonDecreasingBy (λ p. p.g) sorted
  pub same : (g : ℕ) → filter (λ p. p.g == g) sorted ≡ filter (λ p. p.g == g) pairs
