-- What a query is found from: the clock and the map after the first steps of a record, and the step of a station's
-- last fit. This way of finding it is this project's own.
use Rattle.std.specs.Prelude.{◌≡◌, ℕ, List, [], ◌∷◌, Option, Some, None, unwrap_or}
use Rattle.std.specs.Option.{option_map_or}
use Rattle.pack_defs.specs.ChannelMap.{IsAscending, channel_of}
use Rattle.pack_defs.specs.declared.scenario.Scenario.{Scenario}
use Rattle.auction_core.specs.declared.record.Step.{Step}
use Rattle.auction_core.specs.AirMap.{AirMapView}
use Rattle.auction_core.specs.Clock.{ClockView, IsClockOf}
use Rattle.auction_core.specs.State.{CoreState, fit_of}
use Rattle.undecided_tests.specs.Queries.{step_numbered}

-- The channels of the fit of step `n`, counted from 1; none at 0, and none if the step is no fit.
abbrev pub fit_named : List Step → ℕ → List (ℕ × ℕ)
fit_named steps n = option_map_or (λ x. unwrap_or (fit_of x.shown) []) (step_numbered steps n) []

-- Whether the clock and the map are those of this state, and the map ascends.
pub record IsStateAfter (sc : Scenario) (state : CoreState) (clock : ClockView) (map : AirMapView) : Type 0 where
  pub clock_is : IsClockOf sc state.clock clock
  pub entries : map.entries ≡ state.map
  pub rises : IsAscending map.entries

-- These entries, with the station's channel in front if it has one.
abbrev pub entry_before : ℕ → Option ℕ → List (ℕ × ℕ) → List (ℕ × ℕ)
entry_before s None rest = rest
entry_before s (Some channel) rest = (s, channel) ∷ rest

-- The entries of these stations that have a channel, in their order.
abbrev pub entries_of_stations : List (ℕ × ℕ) → List ℕ → List (ℕ × ℕ)
entries_of_stations entries [] = []
entries_of_stations entries (s ∷ ss) = entry_before s (channel_of s entries) (entries_of_stations entries ss)
