-- An auction after some of the clock's tests: what then holds of the clock, the steps, the map and the fits so far. This invariant
-- is the project's own.
use Rattle.std.specs.Prelude.{ℕ, true, ◌≡◌, List, [], ◌∷◌, map, Some}
use Rattle.pack_defs.specs.Book.{BookView}
use Rattle.pack_defs.specs.ChannelMap.{overlaid}
use Rattle.pack_defs.specs.ClockRule.{ClockState, ClockTest, after_answer, after_tests, asked_from, is_active, on_air_set, opening_state}
use Rattle.pack_defs.specs.Lists.{is_in}
use Rattle.pack_defs.specs.Packing.{IsClean}
use Rattle.pack_defs.specs.declared.scenario.Scenario.{Scenario}
use Rattle.assign_check.specs.Fault.{IsCleanOn}
use Rattle.auction_core.specs.declared.record.Shown.{Shown}
use Rattle.auction_core.specs.declared.record.Step.{Step}
use Rattle.auction_core.specs.Backed.{AreShown, after_start, after_steps, undecided_of}
use Rattle.auction_core.specs.State.{CoreState, last_fit, restricted, set_in, shows_room, test_of, tested_set}

-- The clock after these steps.
abbrev pub clock_after : Scenario → ClockState → List Step → ClockState
clock_after sc clock [] = clock
clock_after sc clock (x ∷ xs) = clock_after sc (after_answer sc clock (test_of x) (shows_room x.shown)) xs

-- Whether the station's last fit still works: put over the map, it gives a clean map of what the station's test asks about now.
abbrev pub IsFitKept : Scenario → BookView → CoreState → ℕ → Type 0
IsFitKept sc book state s =
    IsCleanOn book (tested_set sc book state.clock s) (overlaid (restricted state.map (tested_set sc book state.clock s)) (last_fit state.steps s []))

-- Whether earlier fits still work. The steps lead to this clock. For an active station, each set that its tests asked about is part
-- of what its test asks about now; and if one of these sets is the same as now, the station's last fit still works.
pub record FitsStayClean (sc : Scenario) (book : BookView) (state : CoreState) : Type 0 where
  pub clock : clock_after sc (opening_state sc) state.steps ≡ state.clock
  pub grows : (r s : ℕ) (set : List ℕ) → is_active state.clock s ≡ true → set_in sc book (opening_state sc) state.steps r s ≡ Some set → (z : ℕ) → is_in set z ≡ true → is_in (tested_set sc book state.clock s) z ≡ true
  pub fits : (r s : ℕ) → is_active state.clock s ≡ true → set_in sc book (opening_state sc) state.steps r s ≡ Some (tested_set sc book state.clock s) → IsFitKept sc book state s

-- What holds after these tests: the clock is where the rule leads; the steps are the tests that were asked, each properly settled;
-- the map is clean, with exactly the stations on air; and earlier fits still work.
pub record IsClockProgress (sc : Scenario) (book : BookView) (start : Shown) (state : CoreState) (before : List ClockTest) : Type 0 where
  pub clock : state.clock ≡ after_tests sc book (undecided_of state.steps) before (opening_state sc)
  pub tests : map test_of state.steps ≡ asked_from sc book (undecided_of state.steps) before (opening_state sc)
  pub shown : AreShown sc book (after_start sc state.order start) state.steps
  pub same_clock : (after_steps sc (after_start sc state.order start) state.steps).clock ≡ state.clock
  pub same_map : (after_steps sc (after_start sc state.order start) state.steps).map ≡ state.map
  pub clean : IsClean book state.map
  pub stations : map (λ x. x.0) state.map ≡ on_air_set sc state.clock
  pub fits : FitsStayClean sc book state
