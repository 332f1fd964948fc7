-- Views: commands that verify a transcript and answer by texts about it. What each answers, and how a view ends.
use Rattle.std.specs.Prelude.{◌≡◌, ℕ, List, [], ◌∷◌, Option, Some, None, map}
use Rattle.auction_core.specs.Backed.{undecided_of}
use Rattle.auction_core.specs.declared.record.Record.{Record}
use Rattle.result_text.specs.ChannelsText.{channels_text}
use Rattle.undecided_tests.specs.Queries.{step_numbered}
use Rattle.undecided_tests.specs.Settling.{formula_text}
use Rattle.commands.specs.declared.inputs.Inputs.{Inputs}
use Rattle.commands.specs.declared.settling.StepFault.{StepFault}
use Rattle.commands.specs.declared.view.Answer.{Answer}
use Rattle.commands.specs.declared.view.Answer.TheVariants as code
use Rattle.commands.specs.declared.view.AnswerText.{AnswerText}
use Rattle.commands.specs.Delivery.{Delivers, NamedText, named}
use Rattle.commands.specs.Ends.{EndsOutOfMemory, IsShown, VerifyEnds}
use Rattle.commands.specs.Outside.{Outside, IsLinePrinted}
use Rattle.commands.specs.Records.{done_status, result_of, summary_in}
use Rattle.commands.specs.Settling.{missing_fault, step_line}
use Rattle.commands.specs.Statuses.{DONE, NOT_SETTLED}
use Rattle.command_words.specs.Words.{ExportNames, ShowNames, VerifyNames}

-- What a view answers about a verified transcript.
pub data ViewAnswer : Type 0 where
  -- These texts are stored in order, then this text is printed, and this is the status, 0 or 1.
  Tells : List NamedText → List ℕ → ℕ → ViewAnswer
  -- Something that the words name isn't there, and this line says so.
  Lacks : List ℕ → ViewAnswer

-- ---- the views

-- `show` stores the result and the channels of the record, and prints its summary.
abbrev pub show_answer : ShowNames → Inputs → Record → ViewAnswer
show_answer names inputs rec =
    Tells (named names.result (result_of rec.order inputs (undecided_of rec.steps)) ∷ named names.channels (channels_text rec.map) ∷ [])
    (summary_in rec.order inputs (undecided_of rec.steps)) (done_status (undecided_of rec.steps))

-- The formula of the step, unless the step has a fault.
abbrev pub formula_unless : ExportNames → Inputs → Record → Option StepFault → ViewAnswer
formula_unless names inputs rec None = Tells (named names.formula (formula_text inputs.book rec names.step) ∷ []) [] DONE
formula_unless names inputs rec (Some fault) = Lacks (step_line names.step fault)

-- `export` stores the packing formula of the stations that the step asked about, and prints nothing.
abbrev pub export_answer : ExportNames → Inputs → Record → ViewAnswer
export_answer names inputs rec = formula_unless names inputs rec (missing_fault (step_numbered rec.steps names.step))

-- ---- how a view ends

-- How a view with this answer ends: as `verify` without a record, out of memory, without what the words name, or with its texts
-- delivered up to the first failure.
pub data ViewEnds (names : VerifyNames) (says : Inputs → Record → ViewAnswer) (before after : Outside) (status : ℕ) : Type 0 where
  Unverified : VerifyEnds names before after status None → ViewEnds names says before after status
  ViewOutOfMemory : EndsOutOfMemory before after status None → ViewEnds names says before after status
  Lacking : (inputs : Inputs) (rec : Record) (line : List ℕ) → IsShown names before inputs rec → says inputs rec ≡ Lacks line →
      status ≡ NOT_SETTLED → IsLinePrinted before after line → after.files ≡ before.files → ViewEnds names says before after status
  Answered : (inputs : Inputs) (rec : Record) (texts : List NamedText) (text : List ℕ) (done : ℕ) → IsShown names before inputs rec →
      says inputs rec ≡ Tells texts text done → Delivers texts text done before after status → ViewEnds names says before after status

-- ---- the code's values, as these definitions see them

-- A text to store in the code's value.
abbrev pub answer_text : AnswerText → NamedText
answer_text x = named x.name.now x.text.items

-- An answer in the code's value.
abbrev pub answer_view : Answer → ViewAnswer
answer_view (code.Tells texts) = Tells (map answer_text texts.stored.items) texts.printed.items texts.status
answer_view (code.Lacks line) = Lacks line.items
