-- The definitions of the incremental reader: what it has read, and what the text will come to once the rest is known.
use Rattle.std.specs.Prelude.{◌≡◌, ℕ, Bool, true, false, ◌++◌, if◌then◌else◌, List, [], length, Result, Ok, Err}
use Rattle.pack_defs.specs.Book.{BookView}
use Rattle.pack_defs.specs.declared.scenario.Scenario.{Scenario}
use Rattle.lrat_text.specs.Lines.{ended_lines, is_whole}
use Rattle.transcript_text.specs.declared.error.TextErr.{TextErr}
use Rattle.transcript_text.specs.declared.error.TextErr.TheVariants.{Version, BadLine, Truncated, NoMemory}
use Rattle.transcript_text.specs.declared.reader.Stage.{Stage}
use Rattle.transcript_text.specs.declared.reader.Stage.TheVariants.{Opening, Steps, Whole, Refused}
use Rattle.auction_core.specs.declared.prefix.Prefix.{Prefix}
use Rattle.auction_core.specs.declared.transcript.Transcript.{Transcript}
use Rattle.transcript_text.specs.Fields.{RemainingLines}
use Rattle.transcript_text.specs.Reading.{next_step, start_at, steps_at, text_end, transcript_of, version_at}
use Rattle.transcript_text.specs.PrefixReading.{goes_on_there, if_complete, empty_prefix, prefix_of, prefix_start, transcript_prefix}
use Rattle.pack_defs.specs.Steps.{◌>>=◌}
use Rattle.transcript_text.specs.Steps.{Fails}

-- What a reader has of a text: its stage, the number of the first line that is not read, and the bytes from that line
-- on.
pub record ReadSoFar : Type 0 where
  pub stage : Stage
  pub number : ℕ
  pub left : List ℕ

-- The transcript that begins with `begun` and ends with these lines. `whole` is whether the text ends with a complete
-- line.
unfoldable pub continue_reading : Scenario → BookView → Transcript → Bool → RemainingLines → Result Transcript TextErr
continue_reading sc book begun whole lines = do
  steps ← steps_at sc book (length lines.left) (length begun.steps) lines
  u ← text_end whole steps.1
  Ok (record { order = begun.order; start = begun.start; steps = begun.steps ++ steps.0 })

-- The transcript that these lines spell from its first line on.
unfoldable pub begins : Scenario → BookView → Bool → List (List ℕ) → Result Transcript TextErr
begins sc book whole lines = do
  version ← version_at lines
  start ← start_at sc version.1
  continue_reading sc book (record { order = version.0; start = start.0; steps = [] }) whole start.1

-- The transcript without steps, after its start, and the lines after the start.
unfoldable pub opened_at : Scenario → List (List ℕ) → Result (Transcript × RemainingLines) TextErr
opened_at sc lines = do
  version ← version_at lines
  start ← start_at sc version.1
  Ok (record { order = version.0; start = start.0; steps = [] }, start.1)

-- These lines, with more lines after them.
abbrev pub with_lines : RemainingLines → List (List ℕ) → RemainingLines
with_lines lines more = record { number = lines.number; left = lines.left ++ more }

-- A transcript with the steps that were read, the lines after them, and whether its `end` line was read.
pub record StepsSoFar : Type 0 where
  pub begun : Transcript
  pub rest : RemainingLines
  pub ended : Bool

-- The transcript that was read, if no more lines come.
unfoldable pub ended_on_error : Bool → StepsSoFar → Result Transcript TextErr
ended_on_error whole read = if read.ended then (text_end whole read.rest >>= λ u. Ok read.begun) else Err Truncated

-- The complete part of the transcript, if no more complete lines come.
unfoldable pub prefix_on_error : StepsSoFar → Result Prefix TextErr
prefix_on_error read =
    if read.ended then (text_end true read.rest >>= λ u. Ok (transcript_prefix read.begun true)) else Ok (transcript_prefix read.begun false)

-- What was read, if only lines are missing; any other error stays an error.
abbrev pub stopped : TextErr → StepsSoFar → Result StepsSoFar TextErr
stopped Version read = Err Version
stopped (BadLine n) read = Err (BadLine n)
stopped Truncated read = Ok read
stopped NoMemory read = Err NoMemory

-- The transcript that begins with `begun`: complete if its `end` line was read, otherwise continued with these lines.
abbrev pub ends_or_continues : Scenario → BookView → Bool → Transcript → Bool → RemainingLines → Result Transcript TextErr
ends_or_continues sc book false begun whole lines = continue_reading sc book begun whole lines
ends_or_continues sc book true begun whole lines = text_end whole lines >>= λ u. Ok begun

-- Whether reading agrees with the complete text, whatever lines follow: the steps read and the lines left spell the
-- same transcript, or the error is the error of every such text.
abbrev pub ReadsOn : Scenario → BookView → Transcript → RemainingLines → Result StepsSoFar TextErr → Type 0
ReadsOn sc book begun lines (Ok x) =
    (whole : Bool) (more : List (List ℕ)) → continue_reading sc book begun whole (with_lines lines more) ≡ ends_or_continues sc book x.ended x.begun whole (with_lines x.rest more)
ReadsOn sc book begun lines (Err e) = (whole : Bool) (more : List (List ℕ)) → Fails e (continue_reading sc book begun whole (with_lines lines more))

-- The complete part of the transcript that begins with `begun`: all of it if its `end` line was read, otherwise
-- continued with these lines.
abbrev pub prefix_ends_or_continues : Scenario → BookView → Bool → Transcript → RemainingLines → Result Prefix TextErr
prefix_ends_or_continues sc book false begun lines = goes_on_there sc book begun lines
prefix_ends_or_continues sc book true begun lines = text_end true lines >>= λ u. Ok (transcript_prefix begun true)

-- Whether reading agrees with the complete part of the text, whatever lines follow; or the error is the error of
-- every such text.
abbrev pub ArePrefixSteps : Scenario → BookView → Transcript → RemainingLines → Result StepsSoFar TextErr → Type 0
ArePrefixSteps sc book begun lines (Ok x) =
    (more : List (List ℕ)) → goes_on_there sc book begun (with_lines lines more) ≡ prefix_ends_or_continues sc book x.ended x.begun (with_lines x.rest more)
ArePrefixSteps sc book begun lines (Err e) = (more : List (List ℕ)) → Fails e (goes_on_there sc book begun (with_lines lines more))

-- Whether all steps were read, or lines of the next one are missing.
abbrev pub IsAtEnd : Scenario → BookView → StepsSoFar → Type 0
IsAtEnd sc book x = x.ended ≡ false → next_step sc book (length x.begun.steps) x.rest ≡ Err Truncated

-- The transcript that a stage and the lines after it come to.
unfoldable pub comes_to : Scenario → BookView → Stage → Bool → RemainingLines → Result Transcript TextErr
comes_to sc book Opening whole lines = begins sc book whole lines.left
comes_to sc book (Steps begun) whole lines = continue_reading sc book begun whole lines
comes_to sc book (Whole t) whole lines = text_end whole lines >>= λ u. Ok t
comes_to sc book (Refused why) whole lines = Err why

-- The complete part of the transcript that these lines spell from its first line on.
unfoldable pub begins_there : Scenario → BookView → List (List ℕ) → Result Prefix TextErr
begins_there sc book lines = if_complete empty_prefix (version_at lines) (λ version. prefix_start sc book version.0 version.1)

-- The complete part of the transcript that a stage and the lines after it come to.
unfoldable pub comes_there : Scenario → BookView → Stage → RemainingLines → Result Prefix TextErr
comes_there sc book Opening lines = begins_there sc book lines.left
comes_there sc book (Steps begun) lines = goes_on_there sc book begun lines
comes_there sc book (Whole t) lines = text_end true lines >>= λ u. Ok (transcript_prefix t true)
comes_there sc book (Refused why) lines = Err why

-- Whether `stage` is the stage after this error: `waiting` if only lines are missing, otherwise the error.
abbrev pub IsStageOnError : TextErr → Stage → Stage → Type 0
IsStageOnError Version waiting stage = stage ≡ Refused Version
IsStageOnError (BadLine n) waiting stage = stage ≡ Refused (BadLine n)
IsStageOnError Truncated waiting stage = stage ≡ waiting
IsStageOnError NoMemory waiting stage = ⊥

-- Whether the second stage and its lines come to the same as the first, whatever lines follow: as a complete text,
-- and as a beginning.
pub record ReadsToSame (sc : Scenario) (book : BookView) (stage : Stage) (lines : RemainingLines) (next : Stage) (rest : RemainingLines) : Type 0 where
  pub says : (whole : Bool) (more : List (List ℕ)) →
      comes_to sc book stage whole (with_lines lines more) ≡ comes_to sc book next whole (with_lines rest more)
  pub there : (more : List (List ℕ)) → comes_there sc book stage (with_lines lines more) ≡ comes_there sc book next (with_lines rest more)

-- The transcript that the reader's text comes to, if these are all bytes that it has not read.
abbrev pub whole_reading : Scenario → BookView → ReadSoFar → List ℕ → Result Transcript TextErr
whole_reading sc book read bytes =
    comes_to sc book read.stage (is_whole bytes) (record { number = read.number; left = ended_lines bytes })

-- The complete part of it, if these are all bytes that it has not read.
abbrev pub prefix_of_reading : Scenario → BookView → ReadSoFar → List ℕ → Result Prefix TextErr
prefix_of_reading sc book read bytes = comes_there sc book read.stage (record { number = read.number; left = ended_lines bytes })

-- Whether the reader has read these bytes: whatever bytes follow, it comes to what the complete text comes to, and to
-- the complete part of the transcript that begins with it.
pub record HasRead (sc : Scenario) (book : BookView) (bytes : List ℕ) (read : ReadSoFar) : Type 0 where
  pub says : (more : List ℕ) → transcript_of sc book (bytes ++ more) ≡ whole_reading sc book read (read.left ++ more)
  pub there : (more : List ℕ) → prefix_of sc book (bytes ++ more) ≡ prefix_of_reading sc book read (read.left ++ more)

-- Whether the second reader comes to the same as the first, whatever bytes follow.
pub record ReadersAgree (sc : Scenario) (book : BookView) (read next : ReadSoFar) : Type 0 where
  pub says : (more : List ℕ) → whole_reading sc book read (read.left ++ more) ≡ whole_reading sc book next (next.left ++ more)
  pub there : (more : List ℕ) → prefix_of_reading sc book read (read.left ++ more) ≡ prefix_of_reading sc book next (next.left ++ more)

-- Whether the text has this error, whatever bytes follow.
pub record IsFaulty (sc : Scenario) (book : BookView) (read : ReadSoFar) (why : TextErr) : Type 0 where
  pub says : (more : List ℕ) → whole_reading sc book read (read.left ++ more) ≡ Err why
  pub there : (more : List ℕ) → prefix_of_reading sc book read (read.left ++ more) ≡ Err why

-- Whether `kept` has the complete lines of `text`, then those of `behind`, and ends as `behind` does, whatever bytes
-- follow.
pub record HasLinesOf (text behind kept : List ℕ) : Type 0 where
  pub lines : (more : List ℕ) → ended_lines (kept ++ more) ≡ ended_lines text ++ ended_lines (behind ++ more)
  pub end : (more : List ℕ) → is_whole (kept ++ more) ≡ is_whole (behind ++ more)
