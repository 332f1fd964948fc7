-- What several commands promise: of the inputs that they read, of their failures, and of their record.
use Rattle.std.specs.Prelude.{◌≡◌, ◌≢◌, ◌⊎◌, ℕ, true, List, [], ◌∷◌, Option, Some, None, Err, IsSome, IsTrue, MatchOption, ⊤}
use Rattle.pack_defs.specs.Lists.{is_in}
use Rattle.pack_defs.specs.ClockRule.{on_air_set}
use Rattle.pack_defs.specs.Packing.{IsPacking}
use Rattle.outside_io.specs.Faults.{HasRisen}
use Rattle.outside_io.specs.Files.{StoredFile, bytes_of}
use Rattle.commands.specs.declared.inputs.Inputs.{Inputs}
use Rattle.commands.specs.declared.inputs.input_file.Stop.TheVariants.{CannotRead, Refused}
use Rattle.auction_core.specs.declared.record.Ending.TheVariants.{Done}
use Rattle.auction_core.specs.declared.record.Record.{Record}
use Rattle.command_words.specs.declared.run_words.Input.{Input}
use Rattle.commands.specs.declared.messages.refusal.Refusal.{Refusal}
use Rattle.auction_core.specs.Backed.{IsBacked, undecided_of}
use Rattle.commands.specs.Ends.{IsStatusOr}
use Rattle.commands.specs.Inputs.{inputs_of}
use Rattle.commands.specs.Outside.{Outside, IsLinePrinted}
use Rattle.commands.specs.Records.{outcome}
use Rattle.commands.specs.Refusal.{refusal_line}
use Rattle.commands.specs.Messages.{memory_line, unread_line}
use Rattle.commands.specs.Statuses.{UNREAD, UNWRITTEN, REFUSED, NO_MEMORY, NOT_SHOWN, NOT_SETTLED}
use Rattle.command_words.specs.Words.{InputNames, name_of}

-- The domains, the rows and the scenario are in the folder, and so is the owners' file if one is named.
pub record AreInputsPresent (files : List StoredFile) (names : InputNames) : Type 0 where
  pub domains : IsSome (bytes_of files names.domains)
  pub rows : IsSome (bytes_of files names.rows)
  pub scenario : IsSome (bytes_of files names.scenario)
  pub owners : MatchOption names.owners ⊤ (λ name. IsSome (bytes_of files name))

-- What a command promises of the inputs, if it reads no other file.
pub record ReadsInputs (names : InputNames) (before after : Outside) (status : ℕ) : Type 0 where
  -- Over modelled files, at status 5 an input is too long or rejected, and the line names the file and the cause. If the files hold
  -- an input of this kind, the status is 5, unless memory ran out or an unsteady folder failed to read.
  pub refused : (files : List StoredFile) → before.files ≡ Some files → status ≡ REFUSED →
      (why : Refusal) × (inputs_of files names ≡ Err (Refused why)) × IsLinePrinted before after (refusal_line names why)
  pub refuses : (files : List StoredFile) (why : Refusal) → before.files ≡ Some files → inputs_of files names ≡ Err (Refused why) →
      IsStatusOr REFUSED before status
  -- At status 3 the line names an input. Over a steady folder whose modelled files include all inputs, the status is not 3. If a
  -- steady folder's reading first stops at a missing file, the line names that file at status 3, or the status is 8.
  pub unread_says : status ≡ UNREAD → (input : Input) × IsLinePrinted before after (unread_line (name_of names input))
  pub surely_read : (files : List StoredFile) → before.files ≡ Some files → before.steady ≡ true → AreInputsPresent files names → status ≢ UNREAD
  pub missing : (files : List StoredFile) (input : Input) → before.files ≡ Some files → before.steady ≡ true → inputs_of files names ≡ Err (CannotRead input) →
      (status ≡ NO_MEMORY) ⊎ ((status ≡ UNREAD) × IsLinePrinted before after (unread_line (name_of names input)))

-- What each command promises of its failures.
pub record TellsFailures (before after : Outside) (status : ℕ) : Type 0 where
  -- At status 3 the folder's fault count rose. At 4 the fault count of the folder or of the sink rose.
  pub unread : status ≡ UNREAD → HasRisen before.faults after.faults
  pub unwritten : status ≡ UNWRITTEN → HasRisen before.faults after.faults ⊎ HasRisen before.sink_faults after.sink_faults
  -- At status 8 the line says that memory ran out.
  pub memory : status ≡ NO_MEMORY → IsLinePrinted before after memory_line

-- The record is backed by the inputs of some auction. If that auction was completed, the map is clean and has exactly the
-- stations on air at the end.
pub record IsSomeRecord (rec : Record) : Type 0 where
  pub inputs : Inputs
  pub backed : IsBacked inputs.scenario inputs.book rec.order rec
  pub packing : rec.ending ≡ Done → IsPacking inputs.book (on_air_set inputs.scenario (outcome rec.order inputs (undecided_of rec.steps))) rec.map

-- What a command that stores nothing without a record promises of it.
pub record KeepsRecord (before after : Outside) (status : ℕ) (found : Option Record) : Type 0 where
  -- Any record is backed, also where the folder's files are not modelled. There is no record at status 3, 5, 9 or 10.
  pub backed : MatchOption found ⊤ IsSomeRecord
  pub unrecorded : IsTrue (is_in (UNREAD ∷ REFUSED ∷ NOT_SHOWN ∷ NOT_SETTLED ∷ []) status) → found ≡ None
  -- Without a record no file changes.
  pub untouched : found ≡ None → after.files ≡ before.files
