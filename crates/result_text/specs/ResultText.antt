-- The texts of the result and of the summary.
use Rattle.std.specs.Prelude.{ℕ, Bool, false, if◌then◌else◌, List, [], ◌∷◌, ◌++◌, ◌≡◌, unwrap_or, Vec, length, sum_by, count_by, codes, decimal}
use Rattle.std.specs.List.{flat_map}
use Rattle.std.specs.declared.alloc.Global.{Global}
use Rattle.csv.specs.Writing.{default_writer, fields_written, has_written, writer_pending, writer_setup, writer_under}
use Rattle.csv.specs.declared.writer.Writer.{Writer}
use Rattle.pack_defs.specs.declared.scenario.Scenario.{Scenario}
use Rattle.pack_defs.specs.Book.{BookView}
use Rattle.pack_defs.specs.ClockRule.{ClockTest, ClockState, clock_rule, is_listed}
use Rattle.pack_defs.specs.ResultRows.{Outcome, Start, Exit, Frozen, Undecided, ResultRow, on_air_row, result_rows}
use Rattle.freeze_ledger.specs.Ledger.{price_of}
use Rattle.auction_core.specs.declared.record.Record.{Record}
use Rattle.auction_core.specs.Backed.{undecided_of}
use Rattle.auction_core.specs.declared.clock.StationStatus.{StationStatus}
use Rattle.auction_core.specs.declared.clock.StationStatus.TheVariants as standing

-- The state at the end of the clock rule, with the tests that the record shows undecided left undecided.
abbrev pub final_state : Record → BookView → ClockState
final_state rec book = clock_rule rec.scenario book rec.order (undecided_of rec.steps)

-- The word for an outcome.
abbrev pub outcome_word : Outcome → List ℕ
outcome_word Start = codes "start"
outcome_word Exit = codes "exit"
outcome_word Frozen = codes "frozen"
outcome_word Undecided = codes "undecided"

-- A line of four fields with commas between them: the facility, the outcome, the round and the price.
abbrev pub row_fields : ℕ → List ℕ → ℕ → ℕ → List ℕ
row_fields facility word round price =
    decimal facility ++ codes "," ++ word ++ codes "," ++ decimal round ++ codes "," ++ decimal price ++ codes "\n"

-- A line of the result.
abbrev pub row_line : ResultRow → List ℕ
row_line row = row_fields row.facility (outcome_word row.outcome) row.round row.price

-- The first line of the result.
unfoldable pub header_line : List ℕ
header_line = codes "facility,outcome,round,price\n"

-- The result: a header, and a line for each station of the scenario, ascending by facility.
unfoldable pub result_text : Scenario → ClockState → List ClockTest → List ℕ
result_text sc state undecided = header_line ++ flat_map row_line (result_rows sc state undecided)

-- Whether the station is frozen by one of these tests.
abbrev pub frozen_by : List ClockTest → ℕ → StationStatus → Bool
frozen_by tests f standing.Active = false
frozen_by tests f (standing.OnAir round) = false
frozen_by tests f (standing.Frozen round) = is_listed tests (record { round = round; station = f })

-- The same for each of these stations, paired with its standing.
abbrev pub each_frozen_by : List ClockTest → List ℕ → List StationStatus → List Bool
each_frozen_by tests [] xs = []
each_frozen_by tests (f ∷ fs) [] = []
each_frozen_by tests (f ∷ fs) (x ∷ xs) = frozen_by tests f x ∷ each_frozen_by tests fs xs

-- What the station is paid by these entries, in cents; 0 if it has no entry.
abbrev pub price_in : List (ℕ × ℕ) → ℕ → ℕ
price_in paid f = unwrap_or (price_of f paid) 0

-- The line of a station, by its standing, whether it is undecided, and its price if it is frozen; no text if it is
-- active.
abbrev pub station_line : ℕ → StationStatus → Bool → ℕ → List ℕ
station_line f standing.Active u price = []
station_line f (standing.OnAir round) u price = row_line (on_air_row (record { station = f; round = round }))
station_line f (standing.Frozen round) u price =
    row_line (record { facility = f; outcome = if u then Undecided else Frozen; round = round; price = price })

-- The lines of these stations, each paired with its standing and whether it is undecided; the entries are the prices.
abbrev pub station_lines : List (ℕ × ℕ) → List ℕ → List StationStatus → List Bool → List ℕ
station_lines paid [] xs us = []
station_lines paid (f ∷ fs) [] us = []
station_lines paid (f ∷ fs) (x ∷ xs) [] = []
station_lines paid (f ∷ fs) (x ∷ xs) (u ∷ us) = station_line f x u (price_in paid f) ++ station_lines paid fs xs us

-- A line of the summary.
unfoldable pub count_line : List ℕ → ℕ → List ℕ
count_line name n = name ++ codes " " ++ decimal n ++ codes "\n"

-- The summary: the numbers of stations, of stations on air, of frozen stations (the undecided ones included) and of
-- undecided ones, and the total that the frozen stations are paid, in cents.
unfoldable pub summary_text : Scenario → ClockState → List ClockTest → List ℕ
summary_text sc state undecided =
    count_line (codes "stations") (length sc.stations)
    ++ count_line (codes "on-air") (length state.on_air)
    ++ count_line (codes "frozen") (length state.frozen)
    ++ count_line (codes "undecided") (count_by (λ x. is_listed undecided (record { round = x.round; station = x.station })) state.frozen)
    ++ count_line (codes "total") (sum_by (λ x. x.price) state.frozen)

-- Whether a writer of rows with default settings is between two rows.
pub record IsBetweenRows (w : Writer (Vec ℕ Global)) : Type 0 where
  pub setup : writer_setup w ≡ default_writer
  pub fields : fields_written w ≡ 0
  pub wrote : has_written w ≡ false

-- What a writer over a list of bytes has written.
abbrev pub text_held : Writer (Vec ℕ Global) → List ℕ
text_held w = (writer_under w).items ++ writer_pending w
