-- Which step can be exported or settled, and the lines for the faults of a step and of a log.
use Rattle.std.specs.Prelude.{ℕ, if◌then◌else◌, List, ◌++◌, codes, decimal, Option, Some, None}
use Rattle.auction_core.specs.Backed.{is_undecided}
use Rattle.auction_core.specs.declared.record.Step.{Step}
use Rattle.lrat_text.specs.declared.error.LratErr.{LratErr}
use Rattle.lrat_text.specs.declared.error.LratErr.TheVariants.{Truncated, BadLine, RatStep, NoMemory}
use Rattle.undecided_tests.specs.declared.settle.SettleErr.{SettleErr}
use Rattle.undecided_tests.specs.declared.settle.SettleErr.TheVariants.{Unread, NoRefutation, NoMemory as NoRoom}
use Rattle.commands.specs.declared.settling.StepFault.{StepFault}
use Rattle.commands.specs.declared.settling.StepFault.TheVariants.{NoSuchStep, NotUndecided}

-- ---- The step

-- The fault of a step to export: it doesn't exist.
abbrev pub missing_fault : Option Step → Option StepFault
missing_fault None = Some NoSuchStep
missing_fault (Some x) = None

-- The fault of a step to settle: it doesn't exist, or it isn't undecided.
abbrev pub open_fault : Option Step → Option StepFault
open_fault None = Some NoSuchStep
open_fault (Some x) = if is_undecided x.shown then None else Some NotUndecided

-- ---- The lines

-- The end of the line: why a step isn't exported or settled.
unfoldable pub step_why : StepFault → List ℕ
step_why NoSuchStep = codes ": no such step\n"
step_why NotUndecided = codes ": not undecided\n"

-- The line for a step that isn't exported or settled.
abbrev pub step_line : ℕ → StepFault → List ℕ
step_line step fault = codes "step " ++ (decimal step ++ step_why fault)

-- What the line says of a text that is no log, after the name of its file.
unfoldable pub unlogged_text : LratErr → List ℕ
unlogged_text Truncated = codes ": truncated\n"
unlogged_text (BadLine n) = codes ": line " ++ (decimal n ++ codes ": bad line\n")
unlogged_text (RatStep n) = codes ": line " ++ (decimal n ++ codes ": RAT step\n")
unlogged_text NoMemory = codes ": out of memory\n"

-- What the line says of a log that settled nothing, after the name of its file.
unfoldable pub log_why : SettleErr → List ℕ
log_why (Unread why) = unlogged_text why
log_why NoRefutation = codes ": not a refutation\n"
log_why NoRoom = codes ": out of memory\n"

-- The line for a log that settled nothing.
abbrev pub unsettled_line : List ℕ → SettleErr → List ℕ
unsettled_line name fault = name ++ log_why fault
