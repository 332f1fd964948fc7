-- What is fixed while an auction runs: its scenario, its book, and the order in which a round tests the stations.
use Rattle.std.specs.Prelude.{ℕ, ◌≡◌, ◌<◌, List, All, length, map, slice_index}
use Rattle.pack_defs.specs.Book.{BookView, IsInOrder, stations_of}
use Rattle.pack_defs.specs.declared.order.Order.{Order}
use Rattle.pack_defs.specs.declared.scenario.Scenario.{Scenario}
use Rattle.pack_defs.specs.Scenario.{IsWithinLimits, facilities}
use Rattle.pack_defs.specs.Prices.{prices}
use Rattle.pack_defs.specs.ClockRule.{round_order}

-- The fixed part of an auction: its scenario, its book and its test order.
pub record SetupView : Type 0 where
  pub scenario : Scenario
  pub book : BookView
  pub order : Order

-- Whether the scenario is within the limits and the book has exactly its stations.
pub record IsOfAuction (sc : Scenario) (book : BookView) : Type 0 where
  pub limits : IsWithinLimits sc
  pub stations : stations_of book ≡ facilities sc

-- Whether the setup is that of an auction with a book that is in order.
pub record IsSetupSound (s : SetupView) : Type 0 where
  pub auction : IsOfAuction s.scenario s.book
  pub in_order : IsInOrder s.book

-- Whether these lists are what the program keeps of the setup: the price of each round, and the scenario place of each station in
-- the order of a round.
pub record IsSetup (s : SetupView) (schedule places : List ℕ) : Type 0 where
  pub sound : IsSetupSound s
  pub offers : schedule ≡ prices s.scenario
  pub round_order_is : map (slice_index (facilities s.scenario)) places ≡ round_order s.scenario s.order
  pub within : All (λ i. i < length s.scenario.stations) places
