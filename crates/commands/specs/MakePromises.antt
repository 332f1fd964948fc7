-- What `make` promises, clause by clause.
use Rattle.std.specs.Prelude.{Contains, ◌≡◌, ◌≢◌, ◌⊎◌, ◌<◌, ◌≤◌, ℕ, true, List, [], ◌∷◌, length, Option, Some, None, Ok, IsSome, IsTrue, MatchOption, ⊤}
use Rattle.pack_defs.specs.Lists.{is_in}
use Rattle.pack_defs.specs.ClockRule.{ClockTest, FrozenAt}
use Rattle.pack_defs.specs.Prices.{start_set}
use Rattle.pack_defs.specs.Threshold.{IsThresholdPrice}
use Rattle.outside_io.specs.Faults.{HasRisen}
use Rattle.outside_io.specs.Files.{StoredFile}
use Rattle.outside_io.specs.Loads.{Writes}
use Rattle.auction_core.specs.declared.record.Record.{Record}
use Rattle.auction_core.specs.Backed.{undecided_of}
use Rattle.commands.specs.declared.inputs.Inputs.{Inputs}
use Rattle.commands.specs.Delivery.{AllOthersUnchanged, AreStored, AreTextsStoredUpTo}
use Rattle.commands.specs.Make.{make_inputs, make_texts}
use Rattle.commands.specs.Outside.{Outside, IsLinePrinted}
use Rattle.commands.specs.Promises.{IsSomeRecord, TellsFailures}
use Rattle.commands.specs.Records.{IsRecordOf, done_status, outcome, run_order, summary_of}
use Rattle.commands.specs.Messages.{unwritten_line}
use Rattle.commands.specs.Statuses.{DONE, LEFT_OPEN, UNWRITTEN, NO_MEMORY}
use Rattle.command_words.specs.Words.{MakeNames, make_output_names}

-- The generated files are accepted and nobody starts on air. The record is of their completed auction.
pub record IsMakeRun (names : MakeNames) (found : Option Record) : Type 0 where
  pub inputs : Inputs
  pub accepted : make_inputs names.seed names.size ≡ Ok inputs
  pub nobody : start_set inputs.scenario ≡ []
  pub rec : Record
  pub recorded : found ≡ Some rec
  pub auction : IsRecordOf inputs rec

-- The text of that auction's summary.
abbrev pub make_summary : {names : MakeNames} {found : Option Record} → IsMakeRun names found → List ℕ
make_summary made = summary_of made.inputs (undecided_of made.rec.steps)

-- The folder's files are modelled: the three names hold the generated files of the seed and the size, and every other file is
-- unchanged.
abbrev pub AreMakeFilesStored : List StoredFile → MakeNames → Outside → Type 0
AreMakeFilesStored files names after = MatchOption after.files ⊥ (λ new. AreStored files new (make_texts names))

-- The summary is the clock rule's with every test decided: it depends on the seed and the size alone. Each bought station is paid
-- its threshold price, the greatest admissible value with which it would have been bought.
pub record IsMakeDecided (names : MakeNames) (before after : Outside) : Type 0 where
  pub inputs : Inputs
  pub accepted : make_inputs names.seed names.size ≡ Ok inputs
  pub summary : Writes before.held after.held (summary_of inputs []) (Ok tt)
  pub paid : (f : FrozenAt) → Contains (outcome run_order inputs []).frozen f →
      IsThresholdPrice inputs.scenario inputs.book run_order f.station f.price

-- A store failed in a folder that isn't steady, and its fault count rose. There is no record.
pub record IsMakeUnstored (before after : Outside) (found : Option Record) : Type 0 where
  pub none : found ≡ None
  pub risen : HasRisen before.faults after.faults
  pub unsteady : before.steady ≢ true

-- The auction was completed, but the sink failed at the summary, for which it did not guarantee room. The sink grew by the
-- summary or by some of it, from the first byte on.
pub record IsSummaryUnwritten (names : MakeNames) (before after : Outside) (found : Option Record) : Type 0 where
  pub made : IsMakeRun names found
  pub failed : HasRisen before.sink_faults after.sink_faults
  pub unsure : before.sure < length (make_summary made)
  pub summary : IsLinePrinted before after (make_summary made)

-- What `make` promises, by its status and its record.
pub record MakePromises (names : MakeNames) (before after : Outside) (status : ℕ) (found : Option Record) : Type 0 where
  -- For every seed and size the status is 0, 1, 4 or 8: the auction was completed, something was not written, or memory ran out.
  pub statuses : IsTrue (is_in (DONE ∷ LEFT_OPEN ∷ UNWRITTEN ∷ NO_MEMORY ∷ []) status)
  -- Of failures it promises what others do. Any record is backed.
  pub failures : TellsFailures before after status
  pub backed : MatchOption found ⊤ IsSomeRecord
  -- At status 0 and 1 the three names hold the generated files and every other file is unchanged, over modelled files. Over any
  -- files, the record is of the completed auction of the generated files, and the sink grew by its summary. The status is 0
  -- exactly if no test is undecided, and `IsMakeDecided` then holds.
  pub stored : (files : List StoredFile) → before.files ≡ Some files → IsTrue (is_in (DONE ∷ LEFT_OPEN ∷ []) status) →
      AreMakeFilesStored files names after
  pub done : IsTrue (is_in (DONE ∷ LEFT_OPEN ∷ []) status) →
      (made : IsMakeRun names found) × (status ≡ done_status (undecided_of made.rec.steps))
      × Writes before.held after.held (make_summary made) (Ok tt)
  pub decided : status ≡ DONE → IsMakeDecided names before after
  -- At status 4 either a store failed in a folder that isn't steady, or the auction was completed and the sink failed at the
  -- summary. Over modelled files, a failed store leaves the files stored only up to one name, and the line names that file. If
  -- the sink failed at the summary, all three files are stored. The status is not 4 with a steady folder and a sink that
  -- guarantees room for the summary, whichever tests are undecided.
  pub unwritten : status ≡ UNWRITTEN → IsMakeUnstored before after found ⊎ IsSummaryUnwritten names before after found
  pub unstored : (files : List StoredFile) → before.files ≡ Some files → status ≡ UNWRITTEN → found ≡ None →
      (upto : AreTextsStoredUpTo files (make_texts names) after) × IsLinePrinted before after (unwritten_line upto.part.failed.name)
  pub summary_unwritten : (files : List StoredFile) → before.files ≡ Some files → status ≡ UNWRITTEN → IsSome found → AreMakeFilesStored files names after
  pub steady_never_fails : before.steady ≡ true →
      ((inputs : Inputs) (undecided : List ClockTest) → make_inputs names.seed names.size ≡ Ok inputs → length (summary_of inputs undecided) ≤ before.sure) →
      status ≢ UNWRITTEN
  -- At status 8 there is no record. Over modelled files nothing was stored, or the files are stored up to one name, or all three
  -- are stored.
  pub unrecorded : status ≡ NO_MEMORY → found ≡ None
  pub out_of_memory : (files : List StoredFile) → before.files ≡ Some files → status ≡ NO_MEMORY →
      (after.files ≡ before.files) ⊎ (AreTextsStoredUpTo files (make_texts names) after ⊎ AreMakeFilesStored files names after)
  -- Over modelled files, no file changes except the three.
  pub others : (files : List StoredFile) → before.files ≡ Some files →
      MatchOption after.files ⊥ (λ new. AllOthersUnchanged files new (make_output_names names))
