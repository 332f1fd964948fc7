-- An auction that continues where the first steps of another stop. Continuing is this project's own.
use Rattle.std.specs.Prelude.{ℕ, Bool, true, false, ◌+◌, ◌≡◌, if◌then◌else◌, List, [], ◌∷◌, length, take, map, count_by, Option, Some, None}
use Rattle.pack_defs.specs.Book.{BookView}
use Rattle.pack_defs.specs.declared.order.Order.{Order}
use Rattle.pack_defs.specs.declared.scenario.Scenario.{Scenario}
use Rattle.pack_defs.specs.ClockRule.{ClockTest, clock_tests, asked_tests, is_active}
use Rattle.auction_core.specs.declared.record.Shown.{Shown}
use Rattle.auction_core.specs.declared.record.Shown.TheVariants.{Empty, Fits, Same, NoChannel, Refuted, Outside, Undecided}
use Rattle.auction_core.specs.declared.record.Step.{Step}
use Rattle.auction_core.specs.State.{CoreState, test_of, shows_room, start_fits, settled, advance_to_query, before_start, opening}
use Rattle.auction_core.specs.Backed.{undecided_of, AreShown, after_start, shown_start}
use Rattle.auction_core.specs.Rule.{IsStartKept}

-- Whether this may be the beginning of an auction. The start, if it was settled, and each step are properly settled. Without a
-- start set that fits there is no step. The steps are the first tests that the rule asks, with the undecided ones counted as
-- undecided.
pub record IsPrefix (sc : Scenario) (book : BookView) (order : Order) (start : Option Shown) (steps : List Step) : Type 0 where
  pub start_is : IsStartKept sc book start
  pub idle : start_fits start ≡ false → steps ≡ []
  pub tests : map test_of steps ≡ take (length steps) (asked_tests sc book order (undecided_of steps))
  pub shown : AreShown sc book (after_start sc order (shown_start start)) steps

-- Whether a test settled in this way took a query.
abbrev pub took_query : Shown → Bool
took_query Empty = false
took_query (Fits delta) = true
took_query Same = false
took_query (NoChannel s) = false
took_query (Refuted worker how) = true
took_query (Outside proof) = true
took_query (Undecided receipts) = true

-- The number of queries that the start and the steps took.
abbrev pub queries_taken : Shown → List Step → ℕ
queries_taken start steps = (if took_query start then 1 else 0) + count_by (λ x. took_query x.shown) steps

-- The state after these tests with these steps: a test is skipped if its station is not active, and otherwise settled as the next
-- step says. After the last step the state goes on to the next query.
abbrev pub replay_tests : Scenario → BookView → List ClockTest → List Step → CoreState → CoreState
replay_tests sc book ts [] state = advance_to_query sc book ts state
replay_tests sc book [] (x ∷ xs) state = record state { left = [] }
replay_tests sc book (t ∷ ts) (x ∷ xs) state =
    if is_active state.clock t.station
    then replay_tests sc book ts xs (settled sc state t x.shown)
    else replay_tests sc book ts (x ∷ xs) state

-- The state with which an auction continues after this start and these steps; its query has the next number. Without a start it is
-- the opening state.
unfoldable pub resumed : Scenario → BookView → Order → Option Shown → List Step → CoreState
resumed sc book order None steps = opening sc book order
resumed sc book order (Some start) steps =
    if shows_room start
    then replay_tests sc book (clock_tests sc order) steps (record (after_start sc order start) { number = 1 + queries_taken start steps })
    else record (before_start sc order) { start = Some start; number = 1 + queries_taken start steps }
