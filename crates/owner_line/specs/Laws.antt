-- A law of live auctions. `src/laws` proves it, together with one that is short enough to be written out there.
use Rattle.std.specs.Prelude.{◌≡◌, ◌↔◌, ℕ, List, Some, Contains, IsTrue}
use Rattle.pack_defs.specs.Book.{BookView}
use Rattle.pack_defs.specs.declared.order.Order.{Order}
use Rattle.pack_defs.specs.declared.owners.OwnerLine.{OwnerLine}
use Rattle.pack_defs.specs.declared.scenario.Scenario.{Scenario}
use Rattle.pack_defs.specs.Scenario.{StationsAscend, facilities, with_owners}
use Rattle.pack_defs.specs.Prices.{stays}
use Rattle.pack_defs.specs.ClockRule.{ClockTest}
use Rattle.pack_defs.specs.ResultRows.{on_air_row, row_of}
use Rattle.pack_defs.specs.TestAnswer.{test_answers}
use Rattle.owner_line.specs.OwnLines.{FitsUpTo, LeavesIn, live_rule}

-- A station outside the start set goes on air in a round exactly if two conditions hold. The round is the first from 1 in which no
-- line has the station stay, or else the last round; and each of its tests up to the round was answered "fits".
abbrev pub ExitsByItsLines : Type 0
ExitsByItsLines =
    (sc : Scenario) (lines : List OwnerLine) (book : BookView) (order : Order) (undecided : List ClockTest) (s r : ℕ) →
    StationsAscend sc → Contains (facilities sc) s → IsTrue (stays lines 0 s) →
    (row_of undecided (live_rule sc lines book order undecided) s ≡ Some (on_air_row (record { station = s; round = r })))
    ↔ (LeavesIn sc lines s r × FitsUpTo (test_answers (with_owners sc (Some lines)) book order undecided s) r)
