-- What `batch` promises, clause by clause.
use Rattle.std.specs.Prelude.{Contains, ◌≡◌, ◌≢◌, ◌⊎◌, ◌<◌, ◌≤◌, ℕ, true, List, [], ◌∷◌, length, map, Some, Ok, Err, IsTrue, MatchOption, ⊤}
use Rattle.pack_defs.specs.Lists.{is_in}
use Rattle.pack_defs.specs.ClockRule.{FrozenAt}
use Rattle.pack_defs.specs.Threshold.{IsThresholdPrice}
use Rattle.outside_io.specs.Faults.{HasRisen}
use Rattle.outside_io.specs.Files.{StoredFile, bytes_of}
use Rattle.outside_io.specs.Loads.{Writes}
use Rattle.batch_list.specs.ListOf.{ListedNames}
use Rattle.auction_core.specs.declared.record.Ending.TheVariants.{Done}
use Rattle.auction_core.specs.declared.record.Record.{Record}
use Rattle.auction_core.specs.Backed.{undecided_of}
use Rattle.commands.specs.declared.inputs.Inputs.{Inputs}
use Rattle.commands.specs.declared.inputs.input_file.Stop.TheVariants.{CannotRead, Refused, NoMemory}
use Rattle.command_words.specs.declared.run_words.Input.{Input}
use Rattle.commands.specs.Batch.{BatchStop, Unread, Twice, HeldBatch, batch_of, batch_status, batch_texts, own_status, status_lines}
use Rattle.command_words.specs.Words.{inputs_with}
use Rattle.commands.specs.BatchEnds.{AreRecordsOf, EachOf, IsBatchHeld, IsUnderList}
use Rattle.commands.specs.Delivery.{AllOthersUnchanged, AreStored, AreStoredUpTo}
use Rattle.commands.specs.Inputs.{inputs_of}
use Rattle.commands.specs.Outside.{Outside, IsLinePrinted}
use Rattle.commands.specs.Records.{IsRecordBy, outcome, result_of, run_order}
use Rattle.commands.specs.Refusal.{refusal_line}
use Rattle.command_words.specs.Words.{name_of}
use Rattle.commands.specs.Messages.{memory_line, twice_line, unread_line, unwritten_line}
use Rattle.commands.specs.Statuses.{DONE, LEFT_OPEN, UNREAD, UNWRITTEN, REFUSED, NO_MEMORY, SOME_UNSTARTED}
use Rattle.commands.specs.Ends.{IsStatusOr}
use Rattle.command_words.specs.Words.{BatchNames, InputNames}

-- Whether all auctions of the batch ended. There is a record for each line of the list, in order: it is backed, and of the auction of
-- the line's scenario. In a modelled folder, the files hold the batch.
pub record IsBatchRun (names : BatchNames) (before : Outside) (batch : List Record) : Type 0 where
  pub held : HeldBatch
  pub accepted : IsBatchHeld names before held
  pub auctions : AreRecordsOf held batch

-- What a line of the list gets: a record of the auction of its inputs, which `run` would read, and, if the auction was completed,
-- the stored result.
pub record IsRunOf (files new : List StoredFile) (names : BatchNames) (line : ListedNames) (inputs : Inputs) (rec : Record) : Type 0 where
  pub accepted : inputs_of files (inputs_with names line.scenario) ≡ Ok inputs
  pub auction : IsRecordBy inputs rec rec.ending
  -- The file of the line's result holds the clock rule's result with the record's undecided tests, if the auction was completed.
  -- If the line's status is 0, the text depends on the input files alone: it is what `run` stores at 0.
  pub stored : rec.ending ≡ Done → bytes_of new line.result ≡ Some (result_of run_order inputs (undecided_of rec.steps))
  pub decided : own_status rec ≡ DONE → bytes_of new line.result ≡ Some (result_of run_order inputs [])
  -- If the line's status is 0, each bought station is paid its threshold price, the greatest admissible value with which it would
  -- have been bought.
  pub paid : own_status rec ≡ DONE → (f : FrozenAt) → Contains (outcome run_order inputs []).frozen f →
      IsThresholdPrice inputs.scenario inputs.book run_order f.station f.price

-- The line that says what is rejected, or an empty text if nothing is.
abbrev pub refused_line : BatchStop → List ℕ
refused_line (Unread names (CannotRead input)) = []
refused_line (Unread names (Refused why)) = refusal_line names why
refused_line (Unread names NoMemory) = []
refused_line (Twice name) = twice_line name

-- Whether a file is too long or rejected, or a result name is repeated.
abbrev pub IsRefusing : BatchStop → Type 0
IsRefusing (Unread names (CannotRead input)) = ⊥
IsRefusing (Unread names (Refused why)) = ⊤
IsRefusing (Unread names NoMemory) = ⊥
IsRefusing (Twice name) = ⊤

-- Whether all auctions of the batch ended, and their results are stored only up to one name. The results before it are stored, the
-- file of this name may hold anything or be gone, and all other files are unchanged.
pub record IsBatchPart (files : List StoredFile) (names : BatchNames) (before after : Outside) (batch : List Record) : Type 0 where
  pub run : IsBatchRun names before batch
  pub new : List StoredFile
  pub now_modelled : after.files ≡ Some new
  pub part : AreStoredUpTo files new (batch_texts run.held batch)

-- Whether a store failed in a folder that is not steady, and the folder's fault count rose. The line names the file.
pub record IsBatchUnstored (files : List StoredFile) (names : BatchNames) (before after : Outside) (batch : List Record) : Type 0 where
  pub risen : HasRisen before.faults after.faults
  pub unsteady : before.steady ≢ true
  pub upto : IsBatchPart files names before after batch
  pub line : IsLinePrinted before after (unwritten_line upto.part.failed.name)

-- Whether the results are stored, but the sink failed at the status lines, for which it did not guarantee room. The sink grew by the
-- lines or by some of them, from the first byte on.
pub record IsBatchCut (files : List StoredFile) (names : BatchNames) (before after : Outside) (batch : List Record) : Type 0 where
  pub run : IsBatchRun names before batch
  pub stored : MatchOption after.files ⊥ (λ new. AreStored files new (batch_texts run.held batch))
  pub failed : HasRisen before.sink_faults after.sink_faults
  pub unsure : before.sure < length (status_lines run.held.lines batch)
  pub lines : IsLinePrinted before after (status_lines run.held.lines batch)

-- What `batch` promises, by its status and its records.
pub record BatchPromises (names : BatchNames) (before after : Outside) (status : ℕ) (batch : List Record) : Type 0 where
  -- The status is 0, 1, 3, 4, 5, 8 or 11.
  pub statuses : IsTrue (is_in (DONE ∷ LEFT_OPEN ∷ UNREAD ∷ UNWRITTEN ∷ REFUSED ∷ NO_MEMORY ∷ SOME_UNSTARTED ∷ []) status)
  -- At status 0, 1 and 11 all auctions ended, the status is that of the records, and the sink grew by a line for each. This also
  -- holds in a folder that is not modelled. In a modelled folder, each line got what `IsRunOf` says, and no file changes except the
  -- results of completed auctions.
  pub done : IsTrue (is_in (DONE ∷ LEFT_OPEN ∷ SOME_UNSTARTED ∷ []) status) →
      (run : IsBatchRun names before batch) × (status ≡ batch_status batch)
      × Writes before.held after.held (status_lines run.held.lines batch) (Ok tt)
  pub each : (files : List StoredFile) → before.files ≡ Some files → IsTrue (is_in (DONE ∷ LEFT_OPEN ∷ SOME_UNSTARTED ∷ []) status) →
      (run : IsBatchRun names before batch)
      × MatchOption after.files ⊥ (λ new. AreStored files new (batch_texts run.held batch) × EachOf (IsRunOf files new names) run.held.lines run.held.inputs batch)
  -- At status 4 there are records, and at 3 and 5 there are none. At 8 there are none and no file changed, or all auctions ended.
  -- In a modelled folder, if there are records at 8, the results are stored up to one name.
  pub recorded : status ≡ UNWRITTEN → IsBatchRun names before batch
  pub unrecorded : IsTrue (is_in (UNREAD ∷ REFUSED ∷ []) status) → batch ≡ []
  pub out_of_memory : status ≡ NO_MEMORY → ((batch ≡ []) × (after.files ≡ before.files)) ⊎ IsBatchRun names before batch
  pub part_stored : (files : List StoredFile) → before.files ≡ Some files → status ≡ NO_MEMORY → batch ≢ [] →
      IsBatchPart files names before after batch
  -- In a modelled folder, at status 5 the reading first stops at a file that is too long or rejected, or at a repeated result name.
  -- The line says which. A batch of this kind ends at status 5, unless memory ran out or an unsteady folder failed to read.
  pub refused : (files : List StoredFile) → before.files ≡ Some files → status ≡ REFUSED →
      (stop : BatchStop) × IsRefusing stop × (batch_of files names ≡ Err stop) × IsLinePrinted before after (refused_line stop)
  pub refuses : (files : List StoredFile) (stop : BatchStop) → before.files ≡ Some files → batch_of files names ≡ Err stop → IsRefusing stop →
      IsStatusOr REFUSED before status
  -- At status 3 the folder's fault count rose, and the line names a file of the words or a scenario of the list. The other clauses
  -- are for a steady modelled folder. If the reading first stops at a missing file, the line names that file at status 3, or the
  -- status is 8. If it stops at no missing file, the status is not 3.
  pub unread : status ≡ UNREAD → HasRisen before.faults after.faults
      × ((own : InputNames) × (input : Input) × IsUnderList names before own × IsLinePrinted before after (unread_line (name_of own input)))
  pub missing : (files : List StoredFile) (own : InputNames) (input : Input) → before.files ≡ Some files → before.steady ≡ true →
      batch_of files names ≡ Err (Unread own (CannotRead input)) →
      (status ≡ NO_MEMORY) ⊎ ((status ≡ UNREAD) × IsLinePrinted before after (unread_line (name_of own input)))
  pub surely_read : (files : List StoredFile) → before.files ≡ Some files → before.steady ≡ true →
      ((own : InputNames) (input : Input) → batch_of files names ≢ Err (Unread own (CannotRead input))) → status ≢ UNREAD
  -- At status 4 the fault count of the folder or of the sink rose. In a modelled folder, either a store failed, or the results are
  -- stored and the sink failed at the status lines. The status is not 4 with a steady folder and a sink that guarantees room for
  -- the lines.
  pub unwritten : status ≡ UNWRITTEN → HasRisen before.faults after.faults ⊎ HasRisen before.sink_faults after.sink_faults
  pub unstored : (files : List StoredFile) → before.files ≡ Some files → status ≡ UNWRITTEN →
      IsBatchUnstored files names before after batch ⊎ IsBatchCut files names before after batch
  pub surely_written : before.steady ≡ true → ((run : IsBatchRun names before batch) → length (status_lines run.held.lines batch) ≤ before.sure) →
      status ≢ UNWRITTEN
  -- In a modelled folder, an accepted batch ends at status 0, 1, 4 or 11, unless memory ran out or an unsteady folder failed to
  -- read.
  pub complete : (files : List StoredFile) (held : HeldBatch) → before.files ≡ Some files → batch_of files names ≡ Ok held →
      IsStatusOr DONE before status ⊎ IsTrue (is_in (LEFT_OPEN ∷ UNWRITTEN ∷ SOME_UNSTARTED ∷ []) status)
  -- In a modelled folder with an accepted batch, no file changes except those of the results. No file changes without records.
  pub others : (files : List StoredFile) (held : HeldBatch) → before.files ≡ Some files → batch_of files names ≡ Ok held →
      MatchOption after.files ⊥ (λ new. AllOthersUnchanged files new (map (λ line. line.result) held.lines))
  pub untouched : batch ≡ [] → after.files ≡ before.files
  -- At status 8 the line says that memory ran out.
  pub memory : status ≡ NO_MEMORY → IsLinePrinted before after memory_line
