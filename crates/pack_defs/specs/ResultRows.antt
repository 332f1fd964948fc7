-- The rows of the auction's result: what became of each station. The bought stations and their payments follow the clock auction of
-- Milgrom and Segal, "Clock Auctions and Radio Spectrum Reallocation" (2020); the rows are this project's.
use Rattle.std.specs.Prelude.{ℕ, ◌==◌, if◌then◌else◌, List, Option, Some, None, find, filter_map}
use Rattle.pack_defs.specs.declared.scenario.Scenario.{Scenario}
use Rattle.pack_defs.specs.Scenario.{facilities}
use Rattle.pack_defs.specs.ClockRule.{ClockTest, OnAirSince, FrozenAt, ClockState, is_listed}

-- The outcome of a station: on air from the start, gone on air, frozen by a test that doesn't fit, or frozen by an undecided test (the
-- last is this project's profile).
pub data Outcome : Type 0 where
  Start : Outcome
  Exit : Outcome
  Frozen : Outcome
  Undecided : Outcome

-- A row of the result: a station, its outcome, the round of the outcome, and the station's payment in cents.
pub record ResultRow : Type 0 where
  pub facility : ℕ
  pub outcome : Outcome
  pub round : ℕ
  pub price : ℕ

-- The row of a frozen station. Its outcome is undecided if the test that froze it was.
abbrev pub frozen_row : List ClockTest → FrozenAt → ResultRow
frozen_row undecided x = record {
  facility = x.station;
  outcome = if is_listed undecided (record { round = x.round; station = x.station }) then Undecided else Frozen;
  round = x.round;
  price = x.price;
}

-- The row of a station on air. Round 0 is the start.
abbrev pub on_air_row : OnAirSince → ResultRow
on_air_row x = record { facility = x.station; outcome = if x.round == 0 then Start else Exit; round = x.round; price = 0 }

-- The row of a station from its entries among the frozen stations and those on air; none while the station is active.
abbrev pub row_from : List ClockTest → Option FrozenAt → Option OnAirSince → Option ResultRow
row_from undecided (Some x) y = Some (frozen_row undecided x)
row_from undecided None (Some y) = Some (on_air_row y)
row_from undecided None None = None

-- The row of a station in this state.
abbrev pub row_of : List ClockTest → ClockState → ℕ → Option ResultRow
row_of undecided state s = row_from undecided (find (λ x. x.station == s) state.frozen) (find (λ x. x.station == s) state.on_air)

-- The rows of the result, one for each station of the scenario, ascending by facility.
unfoldable pub result_rows : Scenario → ClockState → List ClockTest → List ResultRow
result_rows sc state undecided = filter_map (row_of undecided state) (facilities sc)
