-- What a run promises, in either test order: `run` and `live`, and `resume` where it continues an auction.
use Rattle.std.specs.Prelude.{Contains, ◌≡◌, ◌≢◌, ◌⊎◌, ◌<◌, ◌≤◌, ℕ, true, List, [], ◌∷◌, length, Option, Some, Ok, None, IsFalse, IsSome, IsTrue, MatchOption, ⊤}
use Rattle.pack_defs.specs.Lists.{is_in}
use Rattle.pack_defs.specs.declared.order.Order.{Order}
use Rattle.pack_defs.specs.ClockRule.{ClockTest, FrozenAt}
use Rattle.pack_defs.specs.Threshold.{IsThresholdPrice}
use Rattle.pack_defs.specs.Prices.{start_set}
use Rattle.outside_io.specs.Faults.{HasRisen}
use Rattle.outside_io.specs.Files.{StoredFile, bytes_of}
use Rattle.outside_io.specs.Loads.{Writes}
use Rattle.commands.specs.declared.inputs.Inputs.{Inputs}
use Rattle.auction_core.specs.declared.record.Ending.{Ending}
use Rattle.auction_core.specs.declared.record.Ending.TheVariants.{Done, StartRefuted, StartUndecided}
use Rattle.auction_core.specs.declared.record.Record.{Record}
use Rattle.auction_core.specs.Backed.{undecided_of}
use Rattle.commands.specs.Delivery.{AllOthersUnchanged, AreStored, AreStoredUpTo}
use Rattle.commands.specs.Ends.{AreInputsOf, auction_texts, IsStatusOr}
use Rattle.commands.specs.Inputs.{inputs_of}
use Rattle.commands.specs.LivePromises.{IsLive}
use Rattle.commands.specs.Outside.{Outside, IsLinePrinted}
use Rattle.commands.specs.Promises.{KeepsRecord, ReadsInputs, TellsFailures}
use Rattle.commands.specs.Records.{IsEndedRecordIn, IsOpenRecordIn, IsRecordIn, StartFits, StartUnfit, done_status, outcome, result_of, summary_in}
use Rattle.commands.specs.Messages.{open_line, unfit_line, unwritten_line}
use Rattle.commands.specs.Statuses.{DONE, LEFT_OPEN, UNREAD, UNWRITTEN, REFUSED, START_UNFIT, START_OPEN, NO_MEMORY}
use Rattle.command_words.specs.Words.{RunNames, output_names}

-- The auction of these inputs was completed, and RESULT, CHANNELS and TRANSCRIPT hold the texts of its record.
pub record IsRunDone (order : Order) (files : List StoredFile) (names : RunNames) (before after : Outside) (status : ℕ) (found : Option Record) : Type 0 where
  pub inputs : Inputs
  pub accepted : inputs_of files names.inputs ≡ Ok inputs
  pub rec : Record
  pub recorded : found ≡ Some rec
  pub auction : IsRecordIn order inputs rec
  -- RESULT holds the clock rule's result with the record's undecided tests. CHANNELS holds the record's map, which violates no
  -- row, and TRANSCRIPT the record. Every other file is unchanged.
  pub stored : MatchOption after.files ⊥ (λ new. AreStored files new (auction_texts order names inputs rec))
  -- The sink grew by the summary. The status is 0 exactly if no test is undecided.
  pub summary : Writes before.held after.held (summary_in order inputs (undecided_of rec.steps)) (Ok tt)
  pub status_is : status ≡ done_status (undecided_of rec.steps)

-- RESULT and the summary are the clock rule's with every test decided: they depend on the input files and the test order alone.
-- If no owners' file is named, each bought station is paid its threshold price, the greatest admissible value with which it would
-- have been bought.
pub record IsDecided (order : Order) (files : List StoredFile) (names : RunNames) (before after : Outside) : Type 0 where
  pub inputs : Inputs
  pub accepted : inputs_of files names.inputs ≡ Ok inputs
  pub result : MatchOption after.files ⊥ (λ new. bytes_of new names.result ≡ Some (result_of order inputs []))
  pub summary : Writes before.held after.held (summary_in order inputs []) (Ok tt)
  pub paid : names.inputs.owners ≡ None → (f : FrozenAt) → Contains (outcome order inputs []).frozen f →
      IsThresholdPrice inputs.scenario inputs.book order f.station f.price

-- The auction of these inputs was completed, and its texts are stored only up to one name. The texts before it are stored, that
-- name may hold anything or be gone, and all other files are unchanged.
pub record IsPartStored (order : Order) (files : List StoredFile) (names : RunNames) (after : Outside) (found : Option Record) : Type 0 where
  pub inputs : Inputs
  pub accepted : inputs_of files names.inputs ≡ Ok inputs
  pub rec : Record
  pub recorded : found ≡ Some rec
  pub auction : IsRecordIn order inputs rec
  pub new : List StoredFile
  pub now_modelled : after.files ≡ Some new
  pub part : AreStoredUpTo files new (auction_texts order names inputs rec)

-- A store failed in a folder that isn't steady, and its fault count rose. The texts are stored only up to the name that the line
-- gives.
pub record IsUnstored (order : Order) (files : List StoredFile) (names : RunNames) (before after : Outside) (found : Option Record) : Type 0 where
  pub risen : HasRisen before.faults after.faults
  pub unsteady : before.steady ≢ true
  pub upto : IsPartStored order files names after found
  pub line : IsLinePrinted before after (unwritten_line upto.part.failed.name)

-- The auction of these inputs was completed and its three texts are stored, but the sink failed at the summary. The sink did not
-- guarantee room for the whole summary; it grew by the summary or by some of it, from the first byte on.
pub record IsCutShort (order : Order) (files : List StoredFile) (names : RunNames) (before after : Outside) (found : Option Record) : Type 0 where
  pub inputs : Inputs
  pub accepted : inputs_of files names.inputs ≡ Ok inputs
  pub rec : Record
  pub recorded : found ≡ Some rec
  pub auction : IsRecordIn order inputs rec
  pub stored : MatchOption after.files ⊥ (λ new. AreStored files new (auction_texts order names inputs rec))
  pub failed : HasRisen before.sink_faults after.sink_faults
  pub unsure : before.sure < length (summary_in order inputs (undecided_of rec.steps))
  pub summary : IsLinePrinted before after (summary_in order inputs (undecided_of rec.steps))

-- A store failed, or the sink failed at the summary.
abbrev pub IsUnwritten : Order → List StoredFile → RunNames → Outside → Outside → Option Record → Type 0
IsUnwritten order files names before after found = IsUnstored order files names before after found ⊎ IsCutShort order files names before after found

-- The record is of the auction of these inputs in this order, with this ending. Where the folder's files are modelled, they hold
-- the inputs.
pub record IsRecordAt (order : Order) (names : RunNames) (before : Outside) (ending : Ending) (found : Option Record) : Type 0 where
  pub inputs : Inputs
  pub held : AreInputsOf names.inputs before inputs
  pub rec : Record
  pub recorded : found ≡ Some rec
  pub auction : IsEndedRecordIn order inputs rec ending

-- The start test of these inputs is undecided. The record has a receipt from every worker, and the line says that the start set
-- is undecided.
pub record IsStartLeftOpen (order : Order) (files : List StoredFile) (names : RunNames) (before after : Outside) (found : Option Record) : Type 0 where
  pub inputs : Inputs
  pub accepted : inputs_of files names.inputs ≡ Ok inputs
  pub rec : Record
  pub recorded : found ≡ Some rec
  pub auction : IsOpenRecordIn order inputs rec
  pub line : IsLinePrinted before after open_line

-- What a run promises where the folder's files are modelled.
pub record ModelledRun (order : Order) (files : List StoredFile) (names : RunNames) (before after : Outside) (status : ℕ) (found : Option Record) : Type 0 where
  -- At status 0 and 1 the auction of the inputs that the files hold was completed. At 0 every test was decided.
  pub done : IsTrue (is_in (DONE ∷ LEFT_OPEN ∷ []) status) → IsRunDone order files names before after status found
  pub decided : status ≡ DONE → IsDecided order files names before after
  -- At status 6 the inputs are accepted, their start set doesn't fit, and the line says so. If the start set of accepted inputs
  -- doesn't fit, the status is 6 or 7, unless memory ran out or an unsteady folder failed. At 7 the record has a receipt from
  -- every worker that its budget was spent on the start set. If nobody starts on air, the status is neither 6 nor 7.
  pub unfit : status ≡ START_UNFIT → (inputs : Inputs) × (inputs_of files names.inputs ≡ Ok inputs) × StartUnfit inputs × IsLinePrinted before after unfit_line
  pub unfits : (inputs : Inputs) → inputs_of files names.inputs ≡ Ok inputs → StartUnfit inputs → IsStatusOr START_UNFIT before status ⊎ (status ≡ START_OPEN)
  pub left_open : status ≡ START_OPEN → IsStartLeftOpen order files names before after found
  pub nobody : (inputs : Inputs) → inputs_of files names.inputs ≡ Ok inputs → start_set inputs.scenario ≡ [] → IsFalse (is_in (START_UNFIT ∷ START_OPEN ∷ []) status)
  -- At status 4 a store failed, or the three texts are stored and the sink failed at the summary. If memory ran out and there is
  -- a record, the texts are stored up to the one where memory ran out. Status 4 never comes from a steady folder and a sink that
  -- guarantees room for the summary, whichever tests are undecided.
  pub stored : status ≡ UNWRITTEN → IsUnwritten order files names before after found
  pub part_stored : status ≡ NO_MEMORY → IsSome found → IsPartStored order files names after found
  pub surely_written : before.steady ≡ true →
      ((inputs : Inputs) (undecided : List ClockTest) → inputs_of files names.inputs ≡ Ok inputs → length (summary_in order inputs undecided) ≤ before.sure) →
      status ≢ UNWRITTEN
  -- No file changes except RESULT, CHANNELS and TRANSCRIPT.
  pub others : MatchOption after.files ⊥ (λ new. AllOthersUnchanged files new (output_names names))
  -- If the start set of accepted inputs fits, the status is 0, 1, 4 or 7, unless memory ran out or an unsteady folder failed.
  pub complete : (inputs : Inputs) → inputs_of files names.inputs ≡ Ok inputs → StartFits inputs →
      IsStatusOr DONE before status ⊎ IsTrue (is_in (LEFT_OPEN ∷ UNWRITTEN ∷ START_OPEN ∷ []) status)
  -- If an owners' file is named, any record also keeps the promises of a live auction. Otherwise it has no owners.
  pub live : (owners : List ℕ) → names.inputs.owners ≡ Some owners → IsSome found → IsLive files names.inputs owners found
  pub without_owners : names.inputs.owners ≡ None → MatchOption found ⊤ (λ rec. rec.scenario.owners ≡ None)

-- What a run in this test order promises, by its status and its record.
pub record RunPromises (order : Order) (names : RunNames) (before after : Outside) (status : ℕ) (found : Option Record) : Type 0 where
  -- The status is 0, 1 or from 3 to 8. At 6 and 7 no file changes.
  pub statuses : IsTrue (is_in (DONE ∷ LEFT_OPEN ∷ UNREAD ∷ UNWRITTEN ∷ REFUSED ∷ START_UNFIT ∷ START_OPEN ∷ NO_MEMORY ∷ []) status)
  pub unfit_untouched : IsTrue (is_in (START_UNFIT ∷ START_OPEN ∷ []) status) → after.files ≡ before.files
  -- Of the inputs, of failures and of the record it promises what others do.
  pub inputs : ReadsInputs names.inputs before after status
  pub failures : TellsFailures before after status
  pub keeps : KeepsRecord before after status found
  -- Where the folder's files are modelled, the run keeps the promises of `ModelledRun`.
  pub modelled : (files : List StoredFile) → before.files ≡ Some files → ModelledRun order files names before after status found
  -- This clause also holds where the folder's files are not modelled. At status 0 and 1 the record is of a completed auction of
  -- some inputs, which `recorded` relates to the files, and the sink grew by its summary. The status is 0 exactly if no test is undecided.
  pub summed : IsTrue (is_in (DONE ∷ LEFT_OPEN ∷ []) status) →
      (inputs : Inputs) × (rec : Record) × (found ≡ Some rec) × IsRecordIn order inputs rec
      × (status ≡ done_status (undecided_of rec.steps))
      × Writes before.held after.held (summary_in order inputs (undecided_of rec.steps)) (Ok tt)
  -- The record is of the auction of the inputs. The auction was completed at status 0, 1 and 4; its start is refuted at 6 and
  -- undecided at 7.
  pub recorded : IsTrue (is_in (DONE ∷ LEFT_OPEN ∷ UNWRITTEN ∷ []) status) → IsRecordAt order names before Done found
  pub refuted_recorded : status ≡ START_UNFIT → IsRecordAt order names before StartRefuted found
  pub open_recorded : status ≡ START_OPEN → IsRecordAt order names before StartUndecided found
