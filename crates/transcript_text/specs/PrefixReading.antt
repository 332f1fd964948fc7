-- The beginning of a transcript that a text spells: the parts that are complete, or the first error in its complete
-- lines.
use Rattle.std.specs.Prelude.{◌≡◌, ◌++◌, ℕ, zero, suc, Bool, true, false, ◌+◌, List, [], ◌∷◌, length, take, Option, Some, None, Result, Ok, Err}
use Rattle.pack_defs.specs.Book.{BookView}
use Rattle.pack_defs.specs.declared.scenario.Scenario.{Scenario}
use Rattle.pack_defs.specs.declared.order.Order.{Order}
use Rattle.lrat_text.specs.Lines.{ended_lines}
use Rattle.transcript_text.specs.declared.error.TextErr.{TextErr}
use Rattle.transcript_text.specs.declared.error.TextErr.TheVariants.{Version, BadLine, Truncated, NoMemory}
use Rattle.auction_core.specs.declared.prefix.Prefix.{Prefix}
use Rattle.auction_core.specs.declared.transcript.Transcript.{Transcript}
use Rattle.auction_core.specs.declared.transcript.TranscriptStep.{TranscriptStep}
use Rattle.transcript_text.specs.Fields.{RemainingLines}
use Rattle.transcript_text.specs.Reading.{next_step, start_at, text_end, version_at}
use Rattle.pack_defs.specs.Steps.{◌>>=◌}

-- ---- missing lines

-- What is kept if only lines are missing; any other error stays an error.
abbrev pub kept_on_error : {A : Type 0} → A → TextErr → Result A TextErr
kept_on_error kept Version = Err Version
kept_on_error kept (BadLine n) = Err (BadLine n)
kept_on_error kept Truncated = Ok kept
kept_on_error kept NoMemory = Err NoMemory

-- The next part, read after one that is complete; if that one is incomplete, what is kept.
abbrev pub if_complete : {A B : Type 0} → B → Result A TextErr → (A → Result B TextErr) → Result B TextErr
if_complete kept (Ok x) next = next x
if_complete kept (Err why) next = kept_on_error kept why

-- ---- steps

-- The steps that are complete, and whether the `end` line is.
pub record StepsOfPrefix : Type 0 where
  pub steps : List TranscriptStep
  pub ended : Bool

-- No steps, and no `end` line.
abbrev pub only_these_steps : StepsOfPrefix
only_these_steps = record { steps = []; ended = false }

-- A step, and then the steps after it; or the `end` line, which no complete line may follow.
abbrev pub prefix_step_or : Option TranscriptStep → RemainingLines → (RemainingLines → Result StepsOfPrefix TextErr) → Result StepsOfPrefix TextErr
prefix_step_or None lines rest = text_end true lines >>= λ u. Ok (record { steps = []; ended = true })
prefix_step_or (Some x) lines rest = rest lines >>= λ more. Ok (record { steps = x ∷ more.steps; ended = more.ended })

-- The steps after `steps` steps, up to the `end` line or to the first step that is incomplete. Each step has a line
-- at least, so the number of lines bounds the number of steps.
unfoldable pub prefix_steps : Scenario → BookView → ℕ → ℕ → RemainingLines → Result StepsOfPrefix TextErr
prefix_steps sc book zero steps lines = Ok only_these_steps
prefix_steps sc book (suc most) steps lines =
    if_complete only_these_steps (next_step sc book steps lines) (λ next. prefix_step_or next.0 next.1 (λ rest. prefix_steps sc book most (steps + 1) rest))

-- ---- the complete text

-- What a text without a complete line begins.
abbrev pub empty_prefix : Prefix
empty_prefix = record { order = None; start = None; steps = []; ended = false }

-- What a text begins whose start is incomplete.
abbrev pub order_prefix : Order → Prefix
order_prefix order = record { order = Some order; start = None; steps = []; ended = false }

-- A transcript as a prefix, with whether its `end` line was read.
abbrev pub transcript_prefix : Transcript → Bool → Prefix
transcript_prefix t ended = record { order = Some t.order; start = Some t.start; steps = t.steps; ended = ended }

-- The transcript that begins with `begun`, as far as these lines have complete steps of it.
unfoldable pub goes_on_there : Scenario → BookView → Transcript → RemainingLines → Result Prefix TextErr
goes_on_there sc book begun lines = do
  more ← prefix_steps sc book (length lines.left) (length begun.steps) lines
  Ok (transcript_prefix (record { order = begun.order; start = begun.start; steps = begun.steps ++ more.steps }) more.ended)

-- What follows the first line, which names this order, as far as it is complete.
unfoldable pub prefix_start : Scenario → BookView → Order → RemainingLines → Result Prefix TextErr
prefix_start sc book order lines =
    if_complete (order_prefix order) (start_at sc lines)
    (λ start. goes_on_there sc book (record { order = order; start = start.0; steps = [] }) start.1)

-- The complete part of the transcript that begins with this text: its first line, its start, each step whose lines
-- are all there, and whether the `end` line is. Or the first error: a complete first line that names no version, or
-- the first complete line that is not allowed at its place or follows the `end` line.
unfoldable pub prefix_of : Scenario → BookView → List ℕ → Result Prefix TextErr
prefix_of sc book text =
    if_complete empty_prefix (version_at (ended_lines text)) (λ version. prefix_start sc book version.0 version.1)

-- ---- a beginning and the complete transcript

-- Whether the option is empty or has this value.
abbrev pub IsNoneOr : {A : Type 0} → Option A → A → Type 0
IsNoneOr None x = Unit {0}
IsNoneOr (Some y) x = y ≡ x

-- Whether what was kept is a beginning of this transcript, and all of it if the `end` line was read.
pub record IsPrefixOf (kept : Prefix) (t : Transcript) : Type 0 where
  pub order : IsNoneOr kept.order t.order
  pub start : IsNoneOr kept.start t.start
  pub steps : kept.steps ≡ take (length kept.steps) t.steps
  pub all : kept.ended ≡ true → kept ≡ transcript_prefix t true

-- Whether what was kept has the order, the start and all steps of this transcript, and perhaps more steps.
pub record KeepsAllOf (t : Transcript) (kept : Prefix) : Type 0 where
  pub order : kept.order ≡ Some t.order
  pub start : kept.start ≡ Some t.start
  pub steps : take (length t.steps) kept.steps ≡ t.steps
