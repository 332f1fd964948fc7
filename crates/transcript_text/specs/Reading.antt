-- The transcript that a text spells, or why it spells none, by the first invalid line.
use Rattle.std.specs.Prelude.{ℕ, zero, suc, Bool, ◌&&◌, ◌+◌, ◌≤◌, ◌==◌, if◌then◌else◌, List, [], ◌∷◌, length, Option, Some, None, Result, Ok, Err, codes, decimal}
use Rattle.std.specs.Str.{bytes_eq}
use Rattle.pack_defs.specs.Lists.{is_empty}
use Rattle.pack_defs.specs.Book.{BookView}
use Rattle.pack_defs.specs.declared.scenario.Scenario.{Scenario}
use Rattle.pack_defs.specs.declared.order.Order.{Order}
use Rattle.pack_defs.specs.declared.order.Order.TheVariants.{ByFacility, ByVolume}
use Rattle.rup_check.specs.declared.line.Line.{Line}
use Rattle.rup_check.specs.declared.line.Log.{Log}
use Rattle.cert_types.specs.declared.answer.Receipt.{Receipt}
use Rattle.cert_types.specs.declared.answer.Receipt.TheVariants.{Lines, Moves}
use Rattle.cert_types.specs.declared.answer.Refutation.TheVariants.{Proof as LogProof, Dead as DeadPair}
use Rattle.auction_core.specs.declared.record.Shown.{Shown}
use Rattle.auction_core.specs.declared.record.Shown.TheVariants.{Empty, Fits, Same as SameSet, NoChannel as WithoutChannel, Refuted, Outside as ByOutside, Undecided as LeftOpen}
use Rattle.lrat_text.specs.Lines.{ended_lines, is_whole}
use Rattle.lrat_text.specs.Write.{greatest}
use Rattle.transcript_text.specs.declared.error.TextErr.{TextErr}
use Rattle.transcript_text.specs.declared.error.TextErr.TheVariants.{Version, BadLine, Truncated}
use Rattle.transcript_text.specs.declared.head.StepTest.{StepTest}
use Rattle.transcript_text.specs.declared.head.Head.{Head}
use Rattle.transcript_text.specs.declared.head.Head.TheVariants.{Fit, Same, NoChannel, Log as LogHead, Dead, Outside, Undecided, End}
use Rattle.auction_core.specs.declared.transcript.Transcript.{Transcript}
use Rattle.auction_core.specs.declared.transcript.TranscriptStep.{TranscriptStep}
use Rattle.pack_defs.specs.Steps.{◌>>=◌}
use Rattle.auction_core.specs.LogNumbers.{clauses_in}
use Rattle.transcript_text.specs.Fields.{RemainingLines, RemainingFields, next_line, next_field, line_end, word_at, number_at, count_at, exact_number_at, station_at, channel_at, worker_at, greatest_u32, most_counted}
use Rattle.transcript_text.specs.LogLines.{log_at, entries_at, moves_at, stations_at}

-- ---- logs whose first line may have any number

-- A log, and the number of its first line, which is 0 if the log is empty.
pub record FoundLog : Type 0 where
  pub log : Log
  pub first : ℕ

-- The log of these lines, with this first number.
abbrev pub found_log : ℕ → List Line → FoundLog
found_log first lines = record { log = record { lines = lines }; first = first }

-- A log of one line or more whose first line may have any number, and the lines after it.
unfoldable pub some_log : ℕ → RemainingLines → Result (FoundLog × RemainingLines) TextErr
some_log k lines = do
  next ← next_line lines
  first ← number_at greatest next.0
  log ← log_at first.0 k lines
  Ok (found_log first.0 log.0, log.1)

-- A log of this many lines whose first line may have any number, and the lines after it.
unfoldable pub numbered_log : ℕ → RemainingLines → Result (FoundLog × RemainingLines) TextErr
numbered_log k lines = if k == 0 then Ok (found_log 0 [], lines) else some_log k lines

-- ---- receipts

-- A receipt, and the number of its log's first line, which is 0 if it has none.
pub record FoundReceipt : Type 0 where
  pub receipt : Receipt
  pub first : ℕ

-- A receipt of this many log lines, and the lines after it.
unfoldable pub lines_receipt : ℕ → RemainingLines → Result (FoundReceipt × RemainingLines) TextErr
lines_receipt k lines = do
  found ← numbered_log k lines
  Ok (record { receipt = Lines found.0.log; first = found.0.first }, found.1)

-- A receipt of this many moves, and the lines after it.
unfoldable pub moves_receipt : Scenario → ℕ → RemainingLines → Result (FoundReceipt × RemainingLines) TextErr
moves_receipt sc k lines = do
  moves ← moves_at sc k lines
  Ok (record { receipt = Moves moves.0; first = 0 }, moves.1)

-- The count in a receipt's first line, which must name this worker.
unfoldable pub receipt_count : ℕ → RemainingFields → Result ℕ TextErr
receipt_count worker line = do
  rest ← exact_number_at worker line
  k ← count_at rest
  u ← line_end k.1
  Ok k.0

-- The receipt whose first line, line `n`, begins with this word.
abbrev pub receipt_of_word : Scenario → ℕ → List ℕ → ℕ → RemainingLines → Result (FoundReceipt × RemainingLines) TextErr
receipt_of_word sc n word k lines =
    if bytes_eq word (codes "lines") then lines_receipt k lines
    else (if bytes_eq word (codes "moves") then moves_receipt sc k lines else Err (BadLine n))

-- The receipt of this worker.
unfoldable pub receipt_at : Scenario → ℕ → RemainingLines → Result (FoundReceipt × RemainingLines) TextErr
receipt_at sc worker lines = do
  next ← next_line lines
  word ← next_field next.0
  k ← receipt_count worker word.1
  receipt_of_word sc lines.number word.0 k next.1

-- The receipts of this many workers, from this one on, with the numbers of their logs' first lines.
unfoldable pub receipts_at : Scenario → ℕ → ℕ → RemainingLines → Result ((List Receipt × List ℕ) × RemainingLines) TextErr
receipts_at sc worker zero lines = Ok (([], []), lines)
receipts_at sc worker (suc k) lines = do
  found ← receipt_at sc worker lines
  rest ← receipts_at sc (worker + 1) k found.1
  Ok ((found.0.receipt ∷ rest.0.0, found.0.first ∷ rest.0.1), rest.1)

-- ---- the first line of a step

-- The round and the station of a step, and the fields after them.
unfoldable pub step_test_at : Scenario → RemainingFields → Result (StepTest × RemainingFields) TextErr
step_test_at sc line = do
  r ← number_at greatest_u32 line
  s ← station_at sc r.1
  Ok (record { round = r.0; station = s.0 }, s.1)

-- The rest of a `fit` line: the test, and the count of entries.
unfoldable pub fit_head : Scenario → RemainingFields → Result Head TextErr
fit_head sc line = do
  t ← step_test_at sc line
  k ← count_at t.1
  u ← line_end k.1
  Ok (Fit t.0 k.0)

-- The rest of a `same` line: the test.
unfoldable pub same_head : Scenario → RemainingFields → Result Head TextErr
same_head sc line = do
  t ← step_test_at sc line
  u ← line_end t.1
  Ok (Same t.0)

-- The rest of a `none` line: the test.
unfoldable pub none_head : Scenario → RemainingFields → Result Head TextErr
none_head sc line = do
  t ← step_test_at sc line
  u ← line_end t.1
  Ok (NoChannel t.0)

-- The rest of a `log` line: the test, the worker, and the count of log lines.
unfoldable pub log_head : Scenario → RemainingFields → Result Head TextErr
log_head sc line = do
  t ← step_test_at sc line
  w ← worker_at sc t.1
  k ← count_at w.1
  u ← line_end k.1
  Ok (LogHead t.0 w.0 k.0)

-- The rest of a `dead` line: the test, the worker, and the pair.
unfoldable pub dead_head : Scenario → RemainingFields → Result Head TextErr
dead_head sc line = do
  t ← step_test_at sc line
  w ← worker_at sc t.1
  f ← station_at sc w.1
  a ← channel_at f.1
  g ← station_at sc a.1
  b ← channel_at g.1
  u ← line_end b.1
  Ok (Dead t.0 w.0 (record { f = f.0; a = a.0; g = g.0; b = b.0 }))

-- The rest of an `outside` line: the test, and the count of log lines.
unfoldable pub outside_head : Scenario → RemainingFields → Result Head TextErr
outside_head sc line = do
  t ← step_test_at sc line
  k ← count_at t.1
  u ← line_end k.1
  Ok (Outside t.0 k.0)

-- The rest of an `undecided` line: the test, and the count of receipts, one for each worker.
unfoldable pub undecided_head : Scenario → RemainingFields → Result Head TextErr
undecided_head sc line = do
  t ← step_test_at sc line
  rest ← exact_number_at (length sc.workers) t.1
  u ← line_end rest
  Ok (Undecided t.0)

-- The rest of the `end` line: the count of the steps.
unfoldable pub end_head : ℕ → RemainingFields → Result Head TextErr
end_head steps line = do
  rest ← word_at (decimal steps) line
  u ← line_end rest
  Ok End

-- The rest of the first line that begins with this word.
abbrev pub head_of_word : Scenario → ℕ → List ℕ → RemainingFields → Result Head TextErr
head_of_word sc steps word line =
    if bytes_eq word (codes "fit") then fit_head sc line
    else (if bytes_eq word (codes "same") then same_head sc line
    else (if bytes_eq word (codes "none") then none_head sc line
    else (if bytes_eq word (codes "log") then log_head sc line
    else (if bytes_eq word (codes "dead") then dead_head sc line
    else (if bytes_eq word (codes "outside") then outside_head sc line
    else (if bytes_eq word (codes "undecided") then undecided_head sc line
    else (if bytes_eq word (codes "end") then end_head steps line
    else Err (BadLine line.number))))))))

-- The content of a step's first line, or of the `end` line after this many steps.
unfoldable pub head_at : Scenario → ℕ → RemainingFields → Result Head TextErr
head_at sc steps line = do
  word ← next_field line
  head_of_word sc steps word.0 word.1

-- Whether a step's log has no more lines than may be counted.
abbrev pub IsHeadCounted : Head → Type 0
IsHeadCounted (Fit test k) = Unit {0}
IsHeadCounted (Same test) = Unit {0}
IsHeadCounted (NoChannel test) = Unit {0}
IsHeadCounted (LogHead test worker k) = k ≤ most_counted
IsHeadCounted (Dead test worker pair) = Unit {0}
IsHeadCounted (Outside test k) = k ≤ most_counted
IsHeadCounted (Undecided test) = Unit {0}
IsHeadCounted End = Unit {0}

-- ---- a step

-- The step that answers this test.
abbrev pub step_of : StepTest → Shown → List ℕ → TranscriptStep
step_of test shown firsts =
    record { step = record { round = test.round; station = test.station; shown = shown }; firsts = firsts }

-- A `fit` step of this many entries, and the lines after it.
unfoldable pub fit_step : Scenario → StepTest → ℕ → RemainingLines → Result (TranscriptStep × RemainingLines) TextErr
fit_step sc test k lines = do
  entries ← entries_at sc None k lines
  Ok (step_of test (Fits entries.0) [], entries.1)

-- A `log` step: the stations on the next line, and the log over their clauses.
unfoldable pub log_step : Scenario → BookView → StepTest → ℕ → ℕ → RemainingLines → Result (TranscriptStep × RemainingLines) TextErr
log_step sc book test worker k lines = do
  next ← next_line lines
  rest ← word_at (codes "on") next.0
  subset ← stations_at sc rest.number None rest.fields
  log ← log_at (clauses_in book subset + 1) k next.1
  Ok (step_of test (Refuted worker (LogProof subset (record { lines = log.0 }))) [], log.1)

-- An `outside` step: a log whose first line may have any number.
unfoldable pub outside_step : StepTest → ℕ → RemainingLines → Result (TranscriptStep × RemainingLines) TextErr
outside_step test k lines = do
  found ← numbered_log k lines
  Ok (step_of test (ByOutside (record { log = found.0.log })) (found.0.first ∷ []), found.1)

-- An `undecided` step: a receipt of each worker.
unfoldable pub undecided_step : Scenario → StepTest → RemainingLines → Result (TranscriptStep × RemainingLines) TextErr
undecided_step sc test lines = do
  found ← receipts_at sc 0 (length sc.workers) lines
  Ok (step_of test (LeftOpen found.0.0) found.0.1, found.1)

-- A step that was read, as an option, and the lines after it.
abbrev pub as_some : Result (TranscriptStep × RemainingLines) TextErr → Result (Option TranscriptStep × RemainingLines) TextErr
as_some read = read >>= λ x. Ok (Some x.0, x.1)

-- The step that begins with this first line, or none if it is the `end` line.
unfoldable pub step_at : Scenario → BookView → Head → RemainingLines → Result (Option TranscriptStep × RemainingLines) TextErr
step_at sc book (Fit test k) lines = as_some (fit_step sc test k lines)
step_at sc book (Same test) lines = Ok (Some (step_of test SameSet []), lines)
step_at sc book (NoChannel test) lines = Ok (Some (step_of test (WithoutChannel test.station) []), lines)
step_at sc book (LogHead test worker k) lines = as_some (log_step sc book test worker k lines)
step_at sc book (Dead test worker pair) lines = Ok (Some (step_of test (Refuted worker (DeadPair pair)) []), lines)
step_at sc book (Outside test k) lines = as_some (outside_step test k lines)
step_at sc book (Undecided test) lines = as_some (undecided_step sc test lines)
step_at sc book End lines = Ok (None, lines)

-- The next step after this many, or none at the `end` line.
unfoldable pub next_step : Scenario → BookView → ℕ → RemainingLines → Result (Option TranscriptStep × RemainingLines) TextErr
next_step sc book steps lines = do
  next ← next_line lines
  head ← head_at sc steps next.0
  step_at sc book head next.1

-- A step, and then the steps after it; or no step at the `end` line.
abbrev pub step_or : Option TranscriptStep → RemainingLines → (RemainingLines → Result (List TranscriptStep × RemainingLines) TextErr) → Result (List TranscriptStep × RemainingLines) TextErr
step_or None lines rest = Ok ([], lines)
step_or (Some x) lines rest = rest lines >>= λ more. Ok (x ∷ more.0, more.1)

-- The steps after `steps` steps, up to the `end` line. Each step has a line at least, so the number of lines bounds
-- the number of steps.
unfoldable pub steps_at : Scenario → BookView → ℕ → ℕ → RemainingLines → Result (List TranscriptStep × RemainingLines) TextErr
steps_at sc book zero steps lines = Err Truncated
steps_at sc book (suc most) steps lines = do
  next ← next_step sc book steps lines
  step_or next.0 next.1 (λ rest. steps_at sc book most (steps + 1) rest)

-- ---- the complete text

-- The order that a first line names, if it names a version.
unfoldable pub order_of : List ℕ → Option Order
order_of line =
    if bytes_eq line (codes "transcript 1") then Some ByFacility
    else (if bytes_eq line (codes "transcript 2") then Some ByVolume else None)

-- The order, and the lines after the first line; an error without an order.
abbrev pub version_or : Option Order → List (List ℕ) → Result (Order × RemainingLines) TextErr
version_or None lines = Err Version
version_or (Some order) lines = Ok (order, record { number = 2; left = lines })

-- The order that the first line names, and the lines after it.
abbrev pub version_at : List (List ℕ) → Result (Order × RemainingLines) TextErr
version_at [] = Err Truncated
version_at (line ∷ lines) = version_or (order_of line) lines

-- A start that fits, by the entries on the next lines.
unfoldable pub fit_start : Scenario → RemainingFields → RemainingLines → Result (Shown × RemainingLines) TextErr
fit_start sc line lines = do
  k ← count_at line
  u ← line_end k.1
  entries ← entries_at sc None k.0 lines
  Ok (Fits entries.0, entries.1)

-- An empty start.
unfoldable pub empty_start : RemainingFields → RemainingLines → Result (Shown × RemainingLines) TextErr
empty_start line lines = do
  u ← line_end line
  Ok (Empty, lines)

-- The start of this kind, on line `n`.
abbrev pub start_of_word : Scenario → ℕ → List ℕ → RemainingFields → RemainingLines → Result (Shown × RemainingLines) TextErr
start_of_word sc n word line lines =
    if bytes_eq word (codes "empty") then empty_start line lines
    else (if bytes_eq word (codes "fit") then fit_start sc line lines else Err (BadLine n))

-- How the start test was settled, and the lines after it.
unfoldable pub start_at : Scenario → RemainingLines → Result (Shown × RemainingLines) TextErr
start_at sc lines = do
  next ← next_line lines
  rest ← word_at (codes "start") next.0
  kind ← next_field rest
  start_of_word sc lines.number kind.0 kind.1 next.1

-- The check that nothing follows the last line. `whole` is whether the text ends with a complete line.
abbrev pub text_end : Bool → RemainingLines → Result (Unit {0}) TextErr
text_end whole lines = if is_empty lines.left && whole then Ok tt else Err (BadLine lines.number)

-- The transcript that a text spells, or the first error. The errors are: a complete first line that names no version;
-- a complete line that is not allowed at its place, or any bytes after the `end` line; a text that ends before its
-- `end` line.
unfoldable pub transcript_of : Scenario → BookView → List ℕ → Result Transcript TextErr
transcript_of sc book text = do
  version ← version_at (ended_lines text)
  start ← start_at sc version.1
  steps ← steps_at sc book (length start.1.left) 0 start.1
  u ← text_end (is_whole text) steps.1
  Ok (record { order = version.0; start = start.0; steps = steps.0 })
