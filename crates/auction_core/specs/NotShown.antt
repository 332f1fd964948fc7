-- The first step of a transcript that is not certified, and why. The order of the checks is this project's own: a step's test comes
-- first, and then the places of its answer in their order.
use Rattle.std.specs.Prelude.{ℕ, Bool, true, false, not, ◌≡◌, ◌&&◌, ◌+◌, ◌==◌, nat_le, if◌then◌else◌, List, [], ◌∷◌, length, take, slice_get, Option, Some, None, is_none, unwrap_or}
use Rattle.std.specs.Option.{option_map_or}
use Rattle.pack_defs.specs.declared.order.Order.{Order}
use Rattle.pack_defs.specs.declared.order.Order.TheVariants.{ByVolume}
use Rattle.pack_defs.specs.declared.scenario.Scenario.{Scenario}
use Rattle.pack_defs.specs.declared.worker.Worker.{Worker}
use Rattle.pack_defs.specs.Book.{BookView}
use Rattle.pack_defs.specs.Lists.{is_empty}
use Rattle.pack_defs.specs.Prices.{start_set}
use Rattle.pack_defs.specs.ClockRule.{ClockState, ClockTest, clock_tests, is_active}
use Rattle.rup_check.specs.declared.line.Line.{Line}
use Rattle.cert_types.specs.declared.task.Task.{Task}
use Rattle.cert_types.specs.declared.answer.Answer.TheVariants.{Refuted as Refutes, Spent}
use Rattle.cert_types.specs.declared.answer.Receipt.{Receipt}
use Rattle.cert_types.specs.declared.answer.Refutation.{Refutation}
use Rattle.cert_types.specs.declared.answer.Place.{Place}
use Rattle.cert_types.specs.declared.answer.Place.TheVariants.{Kind, Count, Subset, Station, PairOf, LineAt, MoveAt}
use Rattle.cert_types.specs.Outside.{outside_fault}
use Rattle.cert_types.specs.Valid.{answer_fault, fit_fault, unless}
use Rattle.auction_core.specs.declared.record.Shown.{Shown}
use Rattle.auction_core.specs.declared.record.Shown.TheVariants.{Empty, Fits, Same, NoChannel, Refuted, Outside, Undecided}
use Rattle.auction_core.specs.State.{CoreState, settled, settled_unasked, start_task, start_unasked, test_of, test_task}
use Rattle.auction_core.specs.Backed.{after_start}
use Rattle.auction_core.specs.declared.transcript.Transcript.{Transcript}
use Rattle.auction_core.specs.declared.transcript.TranscriptStep.{TranscriptStep}
use Rattle.auction_core.specs.LogNumbers.{clauses_in, first_number, first_of}
use Rattle.auction_core.specs.declared.prefix.Prefix.{Prefix}
use Rattle.auction_core.specs.declared.prefix.ShownWhy.{ShownWhy}
use Rattle.auction_core.specs.declared.prefix.ShownWhy.TheVariants.{Order as WrongTest, NotValid}
use Rattle.auction_core.specs.declared.prefix.ResumeErr.{ResumeErr}
use Rattle.auction_core.specs.declared.prefix.ResumeErr.TheVariants as resume

-- A step of a transcript that is not certified, and why. Step 0 is the start; the first step after it is 1.
pub record NotShown : Type 0 where
  pub step : ℕ
  pub why : ShownWhy

-- ---- one step

-- The first error of a receipt or of a proof from outside whose log's first line has a wrong number: line 1, unless an earlier
-- place is invalid.
abbrev pub or_first_line : Option Place → Option Place
or_first_line None = Some (LineAt 1)
or_first_line (Some Kind) = Some Kind
or_first_line (Some Count) = Some Count
or_first_line (Some Subset) = Some (LineAt 1)
or_first_line (Some (Station s)) = Some (LineAt 1)
or_first_line (Some (PairOf p)) = Some (LineAt 1)
or_first_line (Some (LineAt n)) = Some (LineAt 1)
or_first_line (Some (MoveAt n)) = Some (LineAt 1)

-- The first error of a worker's receipt, given the number of its log's first line.
abbrev pub receipt_fault : BookView → Task → Worker → Receipt → ℕ → Option Place
receipt_fault book task worker x first =
    let fault = answer_fault book task worker (Spent x) in
    if first == first_of (clauses_in book task.set) x then fault else or_first_line fault

-- The first of two errors.
abbrev pub first_place_or : Option Place → Option Place → Option Place
first_place_or (Some place) rest = Some place
first_place_or None rest = rest

-- The first error among the receipts of these workers, in their order, given the numbers of their logs' first lines.
abbrev pub each_fault : BookView → Task → List Worker → List Receipt → List ℕ → Option Place
each_fault book task [] xs ns = None
each_fault book task (w ∷ ws) [] ns = None
each_fault book task (w ∷ ws) (x ∷ xs) [] = None
each_fault book task (w ∷ ws) (x ∷ xs) (n ∷ ns) =
    first_place_or (receipt_fault book task w x n) (each_fault book task ws xs ns)

-- The first error of the receipts of an undecided test: their number is checked first, then each receipt.
abbrev pub receipts_fault : BookView → Task → List Worker → List Receipt → List ℕ → Option Place
receipts_fault book task workers xs firsts =
    unless (length xs == length workers && length firsts == length workers) Kind (each_fault book task workers xs firsts)

-- The first error of a refutation by this worker; the place is `Kind` if the scenario does not have the worker.
abbrev pub refuted_fault : BookView → Task → Option Worker → Refutation → Option Place
refuted_fault book task None how = Some Kind
refuted_fault book task (Some worker) how = answer_fault book task worker (Refutes how)

-- The first error of a proof from outside, given the number of its log's first line.
abbrev pub outside_log_fault : BookView → Task → List Line → ℕ → Option Place
outside_log_fault book task lines first =
    let fault = outside_fault book task.set lines in
    if first == first_number (clauses_in book task.set) lines then fault else or_first_line fault

-- The first error of a proof from outside: there must be exactly one line number, and then the log is checked.
abbrev pub one_log_fault : BookView → Task → List Line → List ℕ → Option Place
one_log_fault book task lines [] = Some Kind
one_log_fault book task lines (first ∷ []) = outside_log_fault book task lines first
one_log_fault book task lines (first ∷ second ∷ more) = Some Kind

-- The first error of what settles a query.
abbrev pub query_fault : Scenario → BookView → Task → Shown → List ℕ → Option Place
query_fault sc book task Empty firsts = Some Kind
query_fault sc book task (Fits delta) firsts = unless (is_empty firsts) Kind (fit_fault book task delta)
query_fault sc book task Same firsts = Some Kind
query_fault sc book task (NoChannel s) firsts = Some Kind
query_fault sc book task (Refuted w how) firsts = unless (is_empty firsts) Kind (refuted_fault book task (slice_get sc.workers w) how)
query_fault sc book task (Outside proof) firsts = one_log_fault book task proof.log.lines firsts
query_fault sc book task (Undecided xs) firsts = receipts_fault book task sc.workers xs firsts

-- Whether the test is settled by its own station s having no channel.
abbrev pub is_channelless : ℕ → Shown → Bool
is_channelless s Empty = false
is_channelless s (Fits delta) = false
is_channelless s Same = false
is_channelless s (NoChannel t) = t == s
is_channelless s (Refuted w how) = false
is_channelless s (Outside proof) = false
is_channelless s (Undecided xs) = false

-- Whether the test is settled by that of the same station one round before.
abbrev pub is_same_set : Shown → Bool
is_same_set Empty = false
is_same_set (Fits delta) = false
is_same_set Same = true
is_same_set (NoChannel s) = false
is_same_set (Refuted w how) = false
is_same_set (Outside proof) = false
is_same_set (Undecided xs) = false

-- Whether the transcript settles the test in the way in which the rule settled it without a query (`own`).
abbrev pub is_shown_unasked : Shown → Shown → Bool
is_shown_unasked Empty shown = false
is_shown_unasked (Fits delta) shown = false
is_shown_unasked Same shown = is_same_set shown
is_shown_unasked (NoChannel s) shown = is_channelless s shown
is_shown_unasked (Refuted w how) shown = false
is_shown_unasked (Outside proof) shown = false
is_shown_unasked (Undecided xs) shown = false

-- The first error of a step whose test the rule settled without a query (`own`).
abbrev pub unasked_fault : TranscriptStep → Shown → Option Place
unasked_fault x own = unless (is_shown_unasked own x.step.shown && is_empty x.firsts) Kind None

-- The first error of a step in this state: if its test needs no query, it must be settled as the rule settled it; otherwise it must
-- settle its query.
abbrev pub step_fault : Scenario → BookView → CoreState → TranscriptStep → Option Place
step_fault sc book state x =
    option_map_or (unasked_fault x) (settled_unasked sc book state (test_of x.step))
    (query_fault sc book (test_task sc book state (test_of x.step)) x.step.shown x.firsts)

-- ---- all steps

-- The tests from the first active one on.
abbrev pub next_asked : ClockState → List ClockTest → List ClockTest
next_asked clock [] = []
next_asked clock (t ∷ ts) = if is_active clock t.station then t ∷ ts else next_asked clock ts

-- The result that this step is not certified, for this reason.
abbrev pub not_shown_at : ℕ → ShownWhy → Option NotShown
not_shown_at step why = Some (record { step = step; why = why })

-- The result at the end of the steps: out of order if a test is left.
abbrev pub fault_at_end : ℕ → List ClockTest → Option NotShown
fault_at_end step [] = None
fault_at_end step (t ∷ ts) = not_shown_at step WrongTest

-- The first error of a step or of the steps after it.
abbrev pub step_fault_or : ℕ → Option Place → Option NotShown → Option NotShown
step_fault_or step None rest = rest
step_fault_or step (Some place) rest = not_shown_at step (NotValid place)

-- Whether the step is of this test.
abbrev pub is_test : ClockTest → TranscriptStep → Bool
is_test t x = t.round == x.step.round && t.station == x.step.station

-- The first error from this step on, given the tests that are left, the first of which is active. `rest` gives the first error of
-- the steps after it, given the tests after it.
abbrev pub at_test : Scenario → BookView → ℕ → CoreState → TranscriptStep → List ClockTest → (List ClockTest → Option NotShown) → Option NotShown
at_test sc book step state x [] rest = not_shown_at step WrongTest
at_test sc book step state x (t ∷ ts) rest =
    if is_test t x then step_fault_or step (step_fault sc book state x) (rest ts) else not_shown_at step WrongTest

-- The first error of these steps, the first of which has this number, in this state with these tests left.
unfoldable pub steps_fault : Scenario → BookView → ℕ → CoreState → List ClockTest → List TranscriptStep → Option NotShown
steps_fault sc book step state ts [] = fault_at_end step (next_asked state.clock ts)
steps_fault sc book step state ts (x ∷ xs) =
    at_test sc book step state x (next_asked state.clock ts)
    (λ rest. steps_fault sc book (step + 1) (settled sc state (test_of x.step) x.step.shown) rest xs)

-- The first error of the start: it is empty if and only if the start set is; otherwise it is a fit of a start set that needs a
-- query.
abbrev pub start_fault : Scenario → BookView → Shown → Option Place
start_fault sc book Empty = unless (is_empty (start_set sc)) Kind None
start_fault sc book (Fits delta) = unless (is_none (start_unasked sc book)) Kind (fit_fault book (start_task sc 1) delta)
start_fault sc book Same = Some Kind
start_fault sc book (NoChannel s) = Some Kind
start_fault sc book (Refuted w how) = Some Kind
start_fault sc book (Outside proof) = Some Kind
start_fault sc book (Undecided xs) = Some Kind

-- The first step of a transcript that is not certified, and why; `None` if the transcript is sound. The start is step 0.
unfoldable pub not_shown : Scenario → BookView → Transcript → Option NotShown
not_shown sc book t =
    step_fault_or 0 (start_fault sc book t.start) (steps_fault sc book 1 (after_start sc t.order t.start) (clock_tests sc t.order) t.steps)

-- ---- the beginning of a transcript

-- The fault, if it is in the start or in one of this many steps.
abbrev pub within_steps : ℕ → Option NotShown → Option NotShown
within_steps steps None = None
within_steps steps (Some fault) = if nat_le fault.step steps then Some fault else None

-- The test order of a round: as the first line says, or by volume if that line is missing.
abbrev pub order_kept : Prefix → Order
order_kept p = unwrap_or p.order ByVolume

-- The beginning of a transcript as a transcript, given how its start was settled.
abbrev pub as_transcript : Prefix → Shown → Transcript
as_transcript p start = record { order = order_kept p; start = start; steps = p.steps }

-- The fault of a beginning without a start: there may be neither steps nor an end.
abbrev pub unstarted_fault : Prefix → Option NotShown
unstarted_fault p = if is_empty p.steps && not p.ended then None else not_shown_at 1 WrongTest

-- The fault of a beginning with a start. A missing step after the last one is a fault only if the end is there.
abbrev pub started_fault : Scenario → BookView → Bool → Transcript → Option NotShown
started_fault sc book ended t = if ended then not_shown sc book t else within_steps (length t.steps) (not_shown sc book t)

-- The first step of a transcript's beginning that is not certified, and why; `None` if an auction can continue from it.
unfoldable pub not_kept : Scenario → BookView → Prefix → Option NotShown
not_kept sc book p = option_map_or (λ start. started_fault sc book p.ended (as_transcript p start)) p.start (unstarted_fault p)

-- The beginning of a transcript that is cut after this many steps: its order, its start and these steps.
abbrev pub first_steps : ℕ → Transcript → Prefix
first_steps n t = record { order = Some t.order; start = Some t.start; steps = take n t.steps; ended = false }

-- Whether the error is what this definition finds, unless memory ran out.
abbrev pub Explains : ResumeErr → Option NotShown → Type 0
Explains (resume.NotShown step why) found = found ≡ Some (record { step = step; why = why })
Explains resume.NoMemory found = Unit {0}
