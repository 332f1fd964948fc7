-- What `check` promises, clause by clause.
use Rattle.std.specs.Prelude.{◌≡◌, ◌≢◌, ◌⊎◌, ◌≤◌, ℕ, List, [], ◌∷◌, length, Option, Some, Ok, None, IsTrue}
use Rattle.pack_defs.specs.Lists.{is_in}
use Rattle.outside_io.specs.Faults.{HasRisen}
use Rattle.outside_io.specs.Files.{StoredFile}
use Rattle.outside_io.specs.Loads.{Writes}
use Rattle.auction_core.specs.declared.record.Record.{Record}
use Rattle.commands.specs.declared.inputs.Inputs.{Inputs}
use Rattle.commands.specs.Check.{counts_text}
use Rattle.commands.specs.Ends.{IsStatusOr}
use Rattle.commands.specs.Inputs.{inputs_of}
use Rattle.commands.specs.Outside.{Outside, IsLinePrinted}
use Rattle.commands.specs.Promises.{ReadsInputs, TellsFailures}
use Rattle.commands.specs.Statuses.{DONE, UNREAD, UNWRITTEN, REFUSED, NO_MEMORY}
use Rattle.command_words.specs.Words.{InputNames}

-- What `check` promises where the folder's files are modelled.
pub record ModelledCheck (files : List StoredFile) (names : InputNames) (before after : Outside) (status : ℕ) : Type 0 where
  -- At status 0 the files hold accepted inputs, and the sink grew by their counts.
  pub counted : status ≡ DONE → (inputs : Inputs) × (inputs_of files names ≡ Ok inputs) × Writes before.held after.held (counts_text inputs) (Ok tt)
  -- At status 4 the inputs are accepted, and the sink's fault count rose. The sink grew by the counts or by some of them, from
  -- the first byte on. The status is not 4 if the sink guarantees room for the counts.
  pub cut : status ≡ UNWRITTEN →
      (inputs : Inputs) × (inputs_of files names ≡ Ok inputs) × HasRisen before.sink_faults after.sink_faults × IsLinePrinted before after (counts_text inputs)
  pub surely_counted : ((inputs : Inputs) → inputs_of files names ≡ Ok inputs → length (counts_text inputs) ≤ before.sure) → status ≢ UNWRITTEN
  -- Accepted inputs end at status 0 or 4, unless memory ran out or an unsteady folder failed to read.
  pub counts : (inputs : Inputs) → inputs_of files names ≡ Ok inputs → IsStatusOr DONE before status ⊎ (status ≡ UNWRITTEN)

-- What `check` promises, by its status and its record.
pub record CheckPromises (names : InputNames) (before after : Outside) (status : ℕ) (found : Option Record) : Type 0 where
  -- The status is 0, 3, 4, 5 or 8. There is no record, and no file changes.
  pub statuses : IsTrue (is_in (DONE ∷ UNREAD ∷ UNWRITTEN ∷ REFUSED ∷ NO_MEMORY ∷ []) status)
  pub no_record : found ≡ None
  pub untouched : after.files ≡ before.files
  -- Of the inputs and of failures it promises what others do. Where the folder's files are modelled, it keeps the promises of
  -- `ModelledCheck`.
  pub inputs : ReadsInputs names before after status
  pub failures : TellsFailures before after status
  pub modelled : (files : List StoredFile) → before.files ≡ Some files → ModelledCheck files names before after status
