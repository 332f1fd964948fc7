-- What the program promises of its calls, over a folder that keeps a diary.
use Rattle.std.specs.Prelude.{◌≡◌, ◌⊎◌, ℕ, List, [], ◌∷◌, Option, Some, None, IsSome, IsTrue, ⊤}
use Rattle.pack_defs.specs.Lists.{is_in}
use Rattle.auction_core.specs.declared.record.Record.{Record}
use Rattle.outside_io.specs.Diary.{FolderCall}
use Rattle.command_words.specs.Words.{Command, run, check, verify, show, resume, seek, batch, make, export, import}
use Rattle.commands.specs.Calls.{Diary, HasAsked, IsReadUpTo, after_calls, input_calls}
use Rattle.commands.specs.Messages.{unread_line}
use Rattle.commands.specs.Outside.{Outside, IsLinePrinted}
use Rattle.commands.specs.Plan.{Plan, no_command, repeats, carries}
use Rattle.commands.specs.Statuses.{DONE, LEFT_OPEN, UNREAD, UNWRITTEN, REFUSED, START_UNFIT, START_OPEN, NO_MEMORY}
use Rattle.commands.specs.declared.finish.Finish.{Finish}

-- What a run whose inputs are read by these calls promises of the diary, by its status and its record.
pub record RunDiary (calls : List FolderCall) (before after : Outside) (old new : Diary) (status : ℕ) (found : Option Record) : Type 0 where
  -- At status 3 the line names the input whose load, `begin` or piece failed. That call was the last, and the inputs before it
  -- were each asked for once, in order.
  pub unread_named : status ≡ UNREAD → (name : List ℕ) × IsReadUpTo calls (Some name) old new × IsLinePrinted before after (unread_line name)
  -- At status 5 inputs alone were asked for, each once and in order, up to some of them. At 6 and 7 all were, and nothing else.
  pub rejected_in_order : status ≡ REFUSED → IsReadUpTo calls None old new
  pub only_read : IsTrue (is_in (START_UNFIT ∷ START_OPEN ∷ []) status) → new ≡ after_calls calls old
  -- At status 0, 1 and 4 each input was read once, in order, and then stores alone were asked for, at least one.
  pub read_and_stored : IsTrue (is_in (DONE ∷ LEFT_OPEN ∷ UNWRITTEN ∷ []) status) → HasAsked (after_calls calls old) new
  -- At status 8 inputs alone were asked for, each once and in order, or all were and then stores alone. There is a record only if a
  -- store was asked for.
  pub unfinished : status ≡ NO_MEMORY → IsReadUpTo calls None old new ⊎ HasAsked (after_calls calls old) new
  pub recorded_if_asked : status ≡ NO_MEMORY → IsSome found → HasAsked (after_calls calls old) new

-- What this command promises of the diary, if the folder still keeps it at the end.
abbrev pub CommandDiary : Command → Outside → Outside → Diary → Diary → Finish → Type 0
CommandDiary (run names) before after old new finish = IsSome new → RunDiary (input_calls names.inputs) before after old new finish.status finish.result
CommandDiary (check names) before after old new finish = ⊤
CommandDiary (verify names) before after old new finish = ⊤
CommandDiary (show names) before after old new finish = ⊤
CommandDiary (resume names) before after old new finish = ⊤
CommandDiary (seek names) before after old new finish = ⊤
CommandDiary (batch names) before after old new finish = ⊤
CommandDiary (make names) before after old new finish = ⊤
CommandDiary (export names) before after old new finish = ⊤
CommandDiary (import names) before after old new finish = ⊤

-- What the program promises of the diary for a plan. If the words ask for no command, or repeat a name, no call is made.
abbrev pub ProgramDiary : Plan → Outside → Outside → Diary → Diary → Finish → Type 0
ProgramDiary no_command before after old new finish = new ≡ old
ProgramDiary (repeats name) before after old new finish = new ≡ old
ProgramDiary (carries command) before after old new finish = CommandDiary command before after old new finish
