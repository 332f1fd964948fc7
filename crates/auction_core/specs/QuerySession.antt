-- A query session, an auction between two queries, as the program keeps it.
use Rattle.std.specs.Prelude.{ℕ, Bool, ◌≡◌, ◌+◌, ◌≤◌, length, None, true}
use Rattle.pack_defs.specs.Book.{BookView}
use Rattle.pack_defs.specs.declared.scenario.Scenario.{Scenario}
use Rattle.pack_defs.specs.ClockRule.{clock_tests}
use Rattle.auction_core.specs.ClockRun.{ClockRunView, IsAtRest, IsClockRun, core_state, left_of}
use Rattle.auction_core.specs.Rule.{KeepsTheRule}
use Rattle.auction_core.specs.Setup.{SetupView}
use Rattle.auction_core.specs.State.{CoreState, start_fits}

-- An auction between two queries: its scenario, book and state, and whether there is room for all steps that one answer can add.
pub record QuerySessionView : Type 0 where
  pub scenario : Scenario
  pub book : BookView
  pub state : CoreState
  pub ready : Bool

-- Whether this setup, clock run and query number form an auction between two queries that keeps the clock rule.
pub record IsQuerySession (s : SetupView) (c : ClockRunView) (number : ℕ) : Type 0 where
  pub clock_run : IsClockRun s c
  pub rest : start_fits c.start ≡ true → IsAtRest s c
  pub rule : KeepsTheRule s.scenario s.book (core_state s c number)
  pub first : c.start ≡ None → number ≡ 1
  pub tests : number + length (left_of s c) ≤ length (clock_tests s.scenario s.order) + 2
