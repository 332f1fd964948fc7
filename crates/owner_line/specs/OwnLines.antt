-- The clock rule of a live auction; and when a station goes on air, stated by its owner's lines and the answers to its tests,
-- without the rule.
use Rattle.std.specs.Prelude.{ℕ, ◌≡◌, ◌≤◌, ◌<◌, ◌⊎◌, List, Some, Contains, IsTrue, IsFalse}
use Rattle.pack_defs.specs.Book.{BookView}
use Rattle.pack_defs.specs.ClockRule.{ClockState, ClockTest, clock_rule}
use Rattle.pack_defs.specs.declared.order.Order.{Order}
use Rattle.pack_defs.specs.declared.owners.OwnerLine.{OwnerLine}
use Rattle.pack_defs.specs.declared.scenario.Scenario.{Scenario}
use Rattle.pack_defs.specs.Prices.{stays, last_round}
use Rattle.pack_defs.specs.Scenario.{with_owners}
use Rattle.pack_defs.specs.TestAnswer.{TestAnswer}

-- The clock rule of the live auction with these lines: a station declines an offer unless one of the lines has it stay in that round. The
-- values don't matter (live auctions are this project's profile).
abbrev pub live_rule : Scenario → List OwnerLine → BookView → Order → List ClockTest → ClockState
live_rule sc lines book order undecided = clock_rule (with_owners sc (Some lines)) book order undecided

-- The round is the first one from 1 in which none of these lines has the station stay, or else the last one.
pub record LeavesIn (sc : Scenario) (lines : List OwnerLine) (s r : ℕ) : Type 0 where
  pub begun : 1 ≤ r
  pub ended : r ≤ last_round sc
  pub leaves : (r ≡ last_round sc) ⊎ IsFalse (stays lines r s)
  pub stayed : (q : ℕ) → 1 ≤ q → q < r → IsTrue (stays lines q s)

-- Each round from 1 to this one has a test of the station that was answered "fits".
abbrev pub FitsUpTo : List TestAnswer → ℕ → Type 0
FitsUpTo xs r = (q : ℕ) → 1 ≤ q → q ≤ r → (x : TestAnswer) × Contains xs x × (x.round ≡ q) × IsTrue x.room
