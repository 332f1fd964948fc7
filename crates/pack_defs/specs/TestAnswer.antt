-- The answers that the clock rule gives one station. By the laws, the rule's row of a station depends only on these answers and its
-- owner's lines.
use Rattle.std.specs.Prelude.{ℕ, Bool, ◌&&◌, ◌==◌, ◌-◌, if◌then◌else◌, List, [], ◌∷◌, Option, Some, None}
use Rattle.pack_defs.specs.Book.{BookView}
use Rattle.pack_defs.specs.declared.order.Order.{Order}
use Rattle.pack_defs.specs.declared.scenario.Scenario.{Scenario}
use Rattle.pack_defs.specs.ClockRule.{ClockTest, ClockState, clock_tests, opening_state, is_active, is_listed, exits, has_room, after_test}
use Rattle.pack_defs.specs.Prices.{offer}
use Rattle.pack_defs.specs.ResultRows.{ResultRow, Frozen, Undecided, on_air_row}

-- The answer to a station's test in this round: whether there is room for the station, and whether the test was left undecided.
pub record TestAnswer : Type 0 where
  pub round : ℕ
  pub room : Bool
  pub undecided : Bool

-- The answers to the station's tests among these, while the station is active, from this state on.
abbrev pub answers_from : Scenario → BookView → List ClockTest → List ClockTest → ClockState → ℕ → List TestAnswer
answers_from sc book undecided [] state s = []
answers_from sc book undecided (t ∷ ts) state s =
    if is_active state s && (t.station == s)
    then record { round = t.round; room = has_room sc book undecided state t; undecided = is_listed undecided t } ∷ answers_from sc book undecided ts (after_test sc book undecided state t) s
    else answers_from sc book undecided ts (after_test sc book undecided state t) s

-- The answers to the station's tests, in turn.
unfoldable pub test_answers : Scenario → BookView → Order → List ClockTest → ℕ → List TestAnswer
test_answers sc book order undecided s = answers_from sc book undecided (clock_tests sc order) (opening_state sc) s

-- The row of a station outside the start set under these answers. If there is room, the station goes on air in the first round in which
-- it declines the offer, or in the last round; otherwise it is frozen at its offer one round before.
abbrev pub row_from_answers : Scenario → ℕ → List TestAnswer → Option ResultRow
row_from_answers sc s [] = None
row_from_answers sc s (x ∷ xs) =
    if x.room
    then (if exits sc (record { round = x.round; station = s }) then Some (on_air_row (record { station = s; round = x.round })) else row_from_answers sc s xs)
    else Some (record { facility = s; outcome = if x.undecided then Undecided else Frozen; round = x.round; price = offer sc s (x.round - 1) })
