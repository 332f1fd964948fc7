-- How the program ends and what it promises, whatever the words ask for.
use Rattle.std.specs.Prelude.{◌≡◌, ◌⊎◌, ℕ, List, [], None}
use Rattle.commands.specs.declared.finish.Finish.{Finish}
use Rattle.commands.specs.BatchEnds.{BatchEnds}
use Rattle.commands.specs.CheckPromises.{CheckPromises}
use Rattle.commands.specs.Ends.{CheckEnds, ImportEnds, MakeEnds, RunEnds, SeekEnds, VerifyEnds}
use Rattle.commands.specs.ExportPromises.{ExportPromises}
use Rattle.commands.specs.ImportPromises.{ImportPromises}
use Rattle.commands.specs.MakePromises.{MakePromises}
use Rattle.commands.specs.Messages.{memory_line, twice_line}
use Rattle.commands.specs.Outside.{Outside, IsLinePrinted}
use Rattle.commands.specs.Plan.{Plan, no_command, repeats, carries}
use Rattle.commands.specs.Records.{run_order}
use Rattle.commands.specs.ResumeEnds.{ResumeEnds}
use Rattle.commands.specs.RunPromises.{RunPromises}
use Rattle.commands.specs.SeekPromises.{SeekPromises}
use Rattle.commands.specs.ShowPromises.{ShowPromises}
use Rattle.commands.specs.Statuses.{NO_COMMAND, NO_MEMORY, REFUSED}
use Rattle.commands.specs.Verifiable.{IsVerifiable}
use Rattle.commands.specs.VerifyPromises.{VerifyPromises}
use Rattle.commands.specs.Views.{ViewEnds, export_answer, show_answer}
use Rattle.auction_cmd.specs.BatchPromises.{BatchPromises}
use Rattle.auction_cmd.specs.ResumePromises.{ResumePromises}
use Rattle.command_words.specs.Words.{Command, run, check, verify, show, resume, seek, batch, make, export, import, repeated_by}

-- ---- which records the program returns

-- There is one record at most: no second one, and none of a batch.
pub record HasNoOther (finish : Finish) : Type 0 where
  pub below : finish.below ≡ None
  pub batch : finish.batch ≡ []

-- There is no record.
pub record HasNoRecord (finish : Finish) : Type 0 where
  pub none : finish.result ≡ None
  pub others : HasNoOther finish

-- There is no record but those of a batch.
pub record HasBatchAlone (finish : Finish) : Type 0 where
  pub none : finish.result ≡ None
  pub below : finish.below ≡ None

-- ---- how it ends

-- How this command ends. No auction with an owners' file is continued by `resume`, and none of its steps is settled by `import`.
abbrev pub CommandEnds : Command → Outside → Outside → Finish → Type 0
CommandEnds (run names) before after finish = RunEnds run_order names before after finish.status finish.result × HasNoOther finish
CommandEnds (check names) before after finish = CheckEnds names before after finish.status finish.result × HasNoOther finish
CommandEnds (verify names) before after finish = VerifyEnds names before after finish.status finish.result × HasNoOther finish
CommandEnds (show names) before after finish = ViewEnds names.shown (show_answer names) before after finish.status × HasNoRecord finish
CommandEnds (resume names) before after finish =
    (names.run_files.inputs.owners ≡ None) × ResumeEnds names before after finish.status finish.result × HasNoOther finish
CommandEnds (seek names) before after finish = SeekEnds names before after finish.status finish.result finish.below × (finish.batch ≡ [])
CommandEnds (batch names) before after finish = BatchEnds names before after finish.status finish.batch × HasBatchAlone finish
CommandEnds (make names) before after finish = MakeEnds names before after finish.status finish.result × HasNoOther finish
CommandEnds (export names) before after finish = ViewEnds names.shown (export_answer names) before after finish.status × HasNoRecord finish
CommandEnds (import names) before after finish =
    (names.shown.inputs.owners ≡ None) × ImportEnds names before after finish.status finish.result × HasNoOther finish

-- No command is carried out: this text says why, and there is no record. No file changes, and neither does the folder's fault count.
pub record Declines (before after : Outside) (finish : Finish) (text : List ℕ) : Type 0 where
  pub line : IsLinePrinted before after text
  pub files : after.files ≡ before.files
  pub faults : after.faults ≡ before.faults
  pub none : HasNoRecord finish

-- How the program ends: memory ran out before the plan was known, the words are no command, the name of a file to store is given
-- again, or the command ended.
pub data ProgramEnds (plan : Plan) (before after : Outside) (finish : Finish) : Type 0 where
  EndedOutOfMemory : finish.status ≡ NO_MEMORY → Declines before after finish memory_line → ProgramEnds plan before after finish
  Usage : (text : List ℕ) → plan ≡ no_command → finish.status ≡ NO_COMMAND → Declines before after finish text → ProgramEnds plan before after finish
  Repeated : (name : List ℕ) → plan ≡ repeats name → finish.status ≡ REFUSED → Declines before after finish (twice_line name) →
      ProgramEnds plan before after finish
  -- A command is carried out only if no name of a file to store is given again.
  Carried : (command : Command) → plan ≡ carries command → repeated_by command ≡ None → CommandEnds command before after finish →
      ProgramEnds plan before after finish

-- ---- what it promises

-- What this command promises. What `run` and `resume` write, `verify` accepts. Only `seek` has a second record, and only `batch` has more.
abbrev pub CommandPromises : Command → Outside → Outside → Finish → Type 0
CommandPromises (run names) before after finish =
    RunPromises run_order names before after finish.status finish.result × IsVerifiable names.inputs before finish.result × HasNoOther finish
CommandPromises (check names) before after finish = CheckPromises names before after finish.status finish.result × HasNoOther finish
CommandPromises (verify names) before after finish = VerifyPromises names before after finish.status finish.result × HasNoOther finish
CommandPromises (show names) before after finish = ShowPromises names before after finish.status × HasNoRecord finish
CommandPromises (resume names) before after finish = ResumePromises names before after finish.status finish.result × HasNoOther finish
CommandPromises (seek names) before after finish = SeekPromises names before after finish.status finish.result finish.below × (finish.batch ≡ [])
CommandPromises (batch names) before after finish = BatchPromises names before after finish.status finish.batch × HasBatchAlone finish
CommandPromises (make names) before after finish = MakePromises names before after finish.status finish.result × HasNoOther finish
CommandPromises (export names) before after finish = ExportPromises names before after finish.status × HasNoRecord finish
CommandPromises (import names) before after finish = ImportPromises names before after finish.status finish.result × HasNoOther finish

-- What is promised where no command is carried out: there is no record, no file changes, and neither does the folder's fault count.
-- At status 8 the line says that memory ran out.
pub record LeavesAll (before after : Outside) (finish : Finish) : Type 0 where
  pub none : HasNoRecord finish
  pub files : after.files ≡ before.files
  pub faults : after.faults ≡ before.faults
  pub memory : finish.status ≡ NO_MEMORY → IsLinePrinted before after memory_line

-- What the program promises for a plan, by its status and its records.
pub record ProgramPromises (plan : Plan) (before after : Outside) (finish : Finish) : Type 0 where
  -- If the words are no command, the status is 2, or 8 if memory ran out. There is no record and no file changes. Status 2 comes
  -- from no other words.
  pub usage : plan ≡ no_command → LeavesAll before after finish × ((finish.status ≡ NO_COMMAND) ⊎ (finish.status ≡ NO_MEMORY))
  pub usage_only : finish.status ≡ NO_COMMAND → plan ≡ no_command
  -- If the name of a file to store is given again, the status is 5 and the line names it, or the status is 8. There is no record
  -- and no file changes.
  pub twice : (name : List ℕ) → plan ≡ repeats name → LeavesAll before after finish
      × (((finish.status ≡ REFUSED) × IsLinePrinted before after (twice_line name)) ⊎ (finish.status ≡ NO_MEMORY))
  -- Every command keeps its own promises.
  pub command : (asked : Command) → plan ≡ carries asked → CommandPromises asked before after finish
