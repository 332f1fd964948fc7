-- What the check of one step reports, in terms of the state of the auction that is carried out again.
use Rattle.std.specs.Prelude.{ℕ, Bool, true, false, ◌≡◌, ◌⊎◌, ◌&&◌, ◌+◌, ◌≤◌, ◌==◌, ◌++◌, if◌then◌else◌, List, [], length, slice_get, Option, Some, None, option_map}
use Rattle.std.specs.Option.{option_map_or}
use Rattle.pack_defs.specs.declared.order.Order.{Order}
use Rattle.pack_defs.specs.declared.scenario.Scenario.{Scenario}
use Rattle.pack_defs.specs.Book.{BookView}
use Rattle.pack_defs.specs.ClockRule.{ClockTest, clock_tests}
use Rattle.cert_types.specs.declared.task.Task.{Task}
use Rattle.cert_types.specs.declared.answer.Place.{Place}
use Rattle.cert_types.specs.declared.answer.Place.TheVariants.{Kind}
use Rattle.cert_types.specs.Valid.{unless}
use Rattle.pack_defs.specs.Lists.{is_empty}
use Rattle.cert_types.specs.declared.answer.CertifyWhy.{CertifyWhy}
use Rattle.cert_types.specs.declared.answer.CertifyWhy.TheVariants.{Rejected}
use Rattle.cert_types.specs.declared.answer.CertifyWhy.TheVariants as certify
use Rattle.auction_core.specs.declared.record.Shown.{Shown}
use Rattle.auction_core.specs.declared.record.Shown.TheVariants.{Empty, Fits, Same, NoChannel, Refuted, Outside, Undecided}
use Rattle.auction_core.specs.declared.record.Step.{Step}
use Rattle.auction_core.specs.declared.step_list.StepLine.{StepLine}
use Rattle.auction_core.specs.declared.step_list.StepKind.{StepKind}
use Rattle.auction_core.specs.declared.step_list.StepKind.TheVariants.{Verdict, SameSet, Channelless}
use Rattle.auction_core.specs.State.{CoreState, answered, advance_to_query, has_ended, task_of}
use Rattle.auction_core.specs.Backed.{after_start}
use Rattle.auction_core.specs.declared.transcript.Transcript.{Transcript}
use Rattle.auction_core.specs.declared.transcript.TranscriptStep.{TranscriptStep}
use Rattle.auction_core.specs.declared.prefix.ShownWhy.{ShownWhy}
use Rattle.auction_core.specs.declared.prefix.ShownWhy.TheVariants.{NotValid}
use Rattle.auction_core.specs.declared.prefix.ShownWhy.TheVariants as Why
use Rattle.auction_core.specs.declared.prefix.ResumeErr.{ResumeErr}
use Rattle.auction_core.specs.declared.prefix.ResumeErr.TheVariants as resume
use Rattle.auction_core.specs.declared.step_err.StepErr.{StepErr}
use Rattle.auction_core.specs.declared.step_err.StepErr.TheVariants as step
use Rattle.auction_core.specs.LogNumbers.{steps_in}
use Rattle.auction_core.specs.NotShown.{NotShown, is_channelless, is_same_set, not_shown, or_first_line, query_fault, steps_fault, unasked_fault}
use Rattle.auction_core.specs.Prefix.{replay_tests, queries_taken}

-- The fault of a transcript step, given the auction's own step, which was settled without a query.
abbrev pub unasked_result : Step → TranscriptStep → Option ShownWhy
unasked_result own x =
    if own.round == x.step.round && own.station == x.step.station
    then option_map NotValid (unasked_fault x own.shown)
    else Some Why.Order

-- Whether the transcript settles a step in the way of this step kind, which needed no query.
abbrev pub is_shown_as_kept : StepKind → ℕ → Shown → Bool
is_shown_as_kept Verdict s shown = false
is_shown_as_kept SameSet s shown = is_same_set shown
is_shown_as_kept Channelless s shown = is_channelless s shown

-- The fault of a transcript step, given the line of the auction's own step, which was settled without a query.
abbrev pub line_result : StepLine → TranscriptStep → Option ShownWhy
line_result own x =
    if own.round == x.step.round && own.station == x.step.station
    then option_map NotValid (unless (is_shown_as_kept own.step_kind own.station x.step.shown && is_empty x.firsts) Kind None)
    else Some Why.Order

-- Whether the station is the one that the query is about.
abbrev pub is_about : Option ℕ → ℕ → Bool
is_about None s = false
is_about (Some t) s = t == s

-- The fault of a transcript step that is to settle this query.
abbrev pub task_result : Scenario → BookView → Task → TranscriptStep → Option ShownWhy
task_result sc book task x =
    if task.round == x.step.round && is_about task.station x.step.station
    then option_map NotValid (query_fault sc book task x.step.shown x.firsts)
    else Some Why.Order

-- The fault of a transcript step that is to settle the current query; out of order if there is none.
abbrev pub query_result : Scenario → BookView → CoreState → TranscriptStep → Option ShownWhy
query_result sc book state x = option_map_or (λ task. task_result sc book task x) (task_of sc book state) (Some Why.Order)

-- The fault of the transcript step at this place: it must match a step that was settled without a query, or settle the current
-- query.
abbrev pub step_result : Scenario → BookView → CoreState → ℕ → TranscriptStep → Option ShownWhy
step_result sc book state place x =
    option_map_or (λ own. unasked_result own x) (slice_get state.steps place) (query_result sc book state x)

-- The state after the transcript step at this place.
abbrev pub step_leaves : Scenario → BookView → CoreState → ℕ → TranscriptStep → CoreState
step_leaves sc book state place x =
    option_map_or (λ own. state) (slice_get state.steps place) (answered sc book state x.step.shown)

-- Whether the error reports this fault, unless memory ran out.
abbrev pub IsStepFault : StepErr → Option ShownWhy → Type 0
IsStepFault (step.Fault why) told = told ≡ Some why
IsStepFault step.NoMemory told = Unit {0}

-- The error of a step whose answer was rejected for this reason.
abbrev pub step_err : CertifyWhy → StepErr
step_err (Rejected place) = step.Fault (NotValid place)
step_err certify.NoMemory = step.NoMemory

-- The first error of a log, given whether its first line has the right number.
abbrev pub numbered_fault : Bool → Option Place → Option Place
numbered_fault true fault = fault
numbered_fault false fault = or_first_line fault

-- Whether the auction is where these steps lead: its number counts the queries that the steps took, and going through further steps
-- from here is going through all steps from the start. `found` is the first error of the steps that are left.
pub record IsAt (sc : Scenario) (book : BookView) (order : Order) (start : Shown) (done : List Step) (xs : List TranscriptStep) (found : Option NotShown) (state : CoreState) : Type 0 where
  pub at : CoreState
  pub left : List ClockTest
  pub goes : state ≡ advance_to_query sc book left at
  pub turned : at.order ≡ order
  pub steps : at.steps ≡ done
  pub begun : at.start ≡ Some start
  pub counted : at.number ≡ 1 + queries_taken start done
  pub quiet : at.noted ≡ []
  pub through : (more : List Step) (n : ℕ) (l : List ClockTest) → replay_tests sc book (clock_tests sc order) (done ++ more) (record (after_start sc order start) { number = n }) ≡ replay_tests sc book left more (record at { left = l; noted = []; number = n })
  pub rest : steps_fault sc book (length done + 1) at left xs ≡ found

-- The first error among all steps of a transcript, the start excepted.
abbrev pub found_in : Scenario → BookView → Transcript → Option NotShown
found_in sc book t = steps_fault sc book 1 (after_start sc t.order t.start) (clock_tests sc t.order) t.steps

-- Whether the start test was settled by an empty start set.
abbrev pub is_empty_shown : Option Shown → Bool
is_empty_shown None = false
is_empty_shown (Some Empty) = true
is_empty_shown (Some (Fits delta)) = false
is_empty_shown (Some Same) = false
is_empty_shown (Some (NoChannel s)) = false
is_empty_shown (Some (Refuted w how)) = false
is_empty_shown (Some (Outside proof)) = false
is_empty_shown (Some (Undecided xs)) = false

-- Whether the error is one at the end: a step is missing after this many, because the auction has not ended or has a different
-- number of steps.
abbrev pub FinishFault : ResumeErr → CoreState → ℕ → Type 0
FinishFault (resume.NotShown step why) state steps =
    (step ≡ steps + 1) × (why ≡ Why.Order) × ((has_ended state ≡ false) ⊎ (length state.steps ≡ steps → ⊥))
FinishFault resume.NoMemory state steps = Unit {0}

-- Whether the start and every step are proved, and the auction has ended after them.
pub record IsAllShown (sc : Scenario) (book : BookView) (t : Transcript) (state : CoreState) : Type 0 where
  pub ended : has_ended state ≡ true
  pub none : not_shown sc book t ≡ None
  pub steps : state.steps ≡ steps_in t.steps
  pub start : state.start ≡ Some t.start
  pub order : state.order ≡ t.order

-- Whether the error is in the start or in one of this many steps; always true if memory ran out.
abbrev pub IsEarly : ResumeErr → ℕ → Type 0
IsEarly (resume.NotShown step why) steps = step ≤ steps
IsEarly resume.NoMemory steps = Unit {0}
