-- How commands end: their status, their records, and what they leave outside. `BatchEnds` says how a batch ends, `ResumeEnds` how
-- `resume` does, and `Views` how a view does.
use Rattle.std.specs.Prelude.{◌≡◌, ◌≢◌, ◌<◌, ◌≤◌, ◌⊎◌, ℕ, true, List, [], ◌∷◌, length, Option, Some, None, Ok, Err}
use Rattle.outside_io.specs.Faults.{HasRisen}
use Rattle.outside_io.specs.Files.{StoredFile, bytes_of}
use Rattle.outside_io.specs.Loads.{Writes}
use Rattle.commands.specs.declared.inputs.Inputs.{Inputs}
use Rattle.commands.specs.declared.inputs.input_file.Stop.{Stop}
use Rattle.commands.specs.declared.inputs.input_file.Stop.TheVariants.{CannotRead, Refused, NoMemory}
use Rattle.commands.specs.declared.messages.fault.TranscriptFault.{TranscriptFault}
use Rattle.commands.specs.declared.settling.StepFault.{StepFault}
use Rattle.commands.specs.declared.inputs.sources.Sources.{Sources}
use Rattle.commands.specs.declared.top_channel_runs.LeastTop.{LeastTop}
use Rattle.pack_defs.specs.declared.order.Order.{Order}
use Rattle.auction_core.specs.declared.record.Record.{Record}
use Rattle.auction_core.specs.Backed.{undecided_of}
use Rattle.commands.specs.Check.{counts_text}
use Rattle.commands.specs.Delivery.{AreAllStored, Delivers, IsPrinted, NamedText, StopsAtOne, named}
use Rattle.commands.specs.Inputs.{Agrees, CountsFault, file_limit, inputs_of, transcript_limit}
use Rattle.commands.specs.Make.{HasRun, make_inputs, make_texts}
use Rattle.commands.specs.Outside.{Outside, IsLinePrinted}
use Rattle.commands.specs.Records.{IsOpenRecordIn, IsOpenRecordOf, IsRecordIn, IsRefutedRecordIn, IsRefutedRecordOf, done_status, result_of, summary_in}
use Rattle.commands.specs.Refusal.{refusal_line}
use Rattle.command_words.specs.Words.{name_of}
use Rattle.commands.specs.Messages.{PrintsText, long_line, memory_line, open_line, unfit_line, unread_line}
use Rattle.commands.specs.Seek.{IsLeastTop, IsSeekable, base_of, inputs_at, seekable_of, top_status, top_text}
use Rattle.commands.specs.Settling.{unsettled_line, open_fault, step_line}
use Rattle.commands.specs.Statuses.{DONE, UNREAD, UNWRITTEN, REFUSED, START_UNFIT, START_OPEN, NO_MEMORY, NOT_SHOWN, NOT_SETTLED}
use Rattle.commands.specs.Verified.{CanBeNamed, fault_line, verified}
use Rattle.command_words.specs.Words.{ImportNames, InputNames, MakeNames, RunNames, SeekNames, VerifyNames, seek_inputs}
use Rattle.result_text.specs.ChannelsText.{channels_text}
use Rattle.transcript_text.specs.RoundTrip.{IsHeld}
use Rattle.transcript_text.specs.Spelling.{transcript_text}
use Rattle.undecided_tests.specs.Queries.{step_numbered}
use Rattle.undecided_tests.specs.Settling.{settled_text}
use Rattle.undecided_tests.specs.declared.settle.SettleErr.{SettleErr}

-- ---- Reading the inputs

-- Where the folder's files are modelled, the files of these names hold these inputs.
abbrev pub AreInputsOf : InputNames → Outside → Inputs → Type 0
AreInputsOf names before inputs = (files : List StoredFile) → before.files ≡ Some files → inputs_of files names ≡ Ok inputs

-- The status and the line for what stopped the reading: an unreadable file, a rejected input, or running out of memory.
abbrev pub ExplainsHalt : InputNames → Stop → Option (List ℕ) → Option (List ℕ) → ℕ → ℕ → ℕ → Type 0
ExplainsHalt names (CannotRead input) held held' sink_faults sink_faults' status =
    (status ≡ UNREAD) × PrintsText held held' sink_faults sink_faults' (unread_line (name_of names input))
ExplainsHalt names (Refused why) held held' sink_faults sink_faults' status =
    (status ≡ REFUSED) × PrintsText held held' sink_faults sink_faults' (refusal_line names why)
ExplainsHalt names NoMemory held held' sink_faults sink_faults' status = (status ≡ NO_MEMORY) × PrintsText held held' sink_faults sink_faults' memory_line

-- Reading the inputs stopped. Over modelled files it stopped at what they hold, unless memory ran out or an unsteady folder
-- failed. The status and a line report the cause, the fault count rose only for an unreadable file, and no file changed.
pub record IsHalted (names : InputNames) (before after : Outside) (status : ℕ) : Type 0 where
  pub stop : Stop
  pub modelled : (files : List StoredFile) → before.files ≡ Some files →
      Agrees {A = Inputs} {B = Inputs} (λ i. i) before.steady (inputs_of files names) (Err stop)
  pub counted : CountsFault {A = Inputs} before.faults after.faults (Err stop)
  pub explains : ExplainsHalt names stop before.held after.held before.sink_faults after.sink_faults status
  pub files : after.files ≡ before.files

-- The status is this one, or 8, or 3 over a folder that isn't steady. Whether memory really ran out at 8 is not asked.
abbrev pub IsStatusOr : ℕ → Outside → ℕ → Type 0
IsStatusOr wanted before status = (status ≡ wanted) ⊎ ((status ≡ NO_MEMORY) ⊎ ((status ≡ UNREAD) × (before.steady ≢ true)))

-- Status 8 and its line, no record, and no file changed. Whether memory really ran out is not asked.
pub record EndsOutOfMemory (before after : Outside) (status : ℕ) (found : Option Record) : Type 0 where
  pub status_is : status ≡ NO_MEMORY
  pub found_is : found ≡ None
  pub line : IsLinePrinted before after memory_line
  pub files : after.files ≡ before.files

-- ---- The commands

-- A run's texts with their names, in the order in which they are stored: result, channels, transcript.
abbrev pub output_texts : RunNames → List ℕ → List ℕ → List ℕ → List NamedText
output_texts names result channels transcript =
    named names.result result ∷ named names.channels channels ∷ named names.transcript transcript ∷ []

-- What a run in this order stores of a completed auction: the result, the channels of the record's map, and the record's
-- transcript.
abbrev pub auction_texts : Order → RunNames → Inputs → Record → List NamedText
auction_texts order names inputs rec =
    output_texts names (result_of order inputs (undecided_of rec.steps)) (channels_text rec.map)
    (transcript_text inputs.scenario inputs.book rec)

-- How the auction of these inputs in this order concludes, with this record: start set unfit, start test undecided, or auction
-- completed.
pub data Concludes (order : Order) (names : RunNames) (inputs : Inputs) (rec : Record) (before after : Outside) (status : ℕ) (found : Option Record) : Type 0 where
  -- If the start set doesn't fit or its test is undecided, no file changes.
  Unfit : IsRefutedRecordIn order inputs rec → status ≡ START_UNFIT → found ≡ Some rec → IsLinePrinted before after unfit_line →
      after.files ≡ before.files → Concludes order names inputs rec before after status found
  StartOpen : IsOpenRecordIn order inputs rec → status ≡ START_OPEN → found ≡ Some rec → IsLinePrinted before after open_line →
      after.files ≡ before.files → Concludes order names inputs rec before after status found
  -- The three texts are stored and then the summary printed, up to the first failure. The record can be written and read again if
  -- the channels are those of a file.
  Delivered : IsRecordIn order inputs rec → CanBeNamed inputs → IsHeld rec → found ≡ Some rec →
      Delivers (auction_texts order names inputs rec) (summary_in order inputs (undecided_of rec.steps))
      (done_status (undecided_of rec.steps)) before after status →
      Concludes order names inputs rec before after status found

-- Memory ran out, or the auction concludes with this record.
abbrev pub ConcludesUnlessOutOfMemory : Order → RunNames → Inputs → Record → Outside → Outside → ℕ → Option Record → Type 0
ConcludesUnlessOutOfMemory order names inputs rec before after status found =
    EndsOutOfMemory before after status found ⊎ Concludes order names inputs rec before after status found

-- How a run in this order ends: an input stopped it, memory ran out, or the auction of its inputs concluded.
pub data RunEnds (order : Order) (names : RunNames) (before after : Outside) (status : ℕ) (found : Option Record) : Type 0 where
  RunStopped : IsHalted names.inputs before after status → found ≡ None → RunEnds order names before after status found
  RunOutOfMemory : EndsOutOfMemory before after status found → RunEnds order names before after status found
  Concluded : (inputs : Inputs) (rec : Record) → AreInputsOf names.inputs before inputs →
      Concludes order names inputs rec before after status found → RunEnds order names before after status found

-- How `check` ends: an input stopped it, memory ran out, it wrote the counts, or the sink failed at the counts. It has no record
-- and changes no file.
pub data CheckEnds (names : InputNames) (before after : Outside) (status : ℕ) (found : Option Record) : Type 0 where
  CheckStopped : IsHalted names before after status → found ≡ None → CheckEnds names before after status found
  CheckOutOfMemory : EndsOutOfMemory before after status found → CheckEnds names before after status found
  Counted : (inputs : Inputs) → AreInputsOf names before inputs → status ≡ DONE → found ≡ None →
      Writes before.held after.held (counts_text inputs) (Ok tt) → after.files ≡ before.files →
      CheckEnds names before after status found
  CountsCut : (inputs : Inputs) → AreInputsOf names before inputs → status ≡ UNWRITTEN → found ≡ None →
      HasRisen before.sink_faults after.sink_faults → before.sure < length (counts_text inputs) →
      IsLinePrinted before after (counts_text inputs) → after.files ≡ before.files → CheckEnds names before after status found

-- Where the folder's files are modelled, they hold these sources, and each station of the scenario has a domain row.
abbrev pub AreSought : SeekNames → Outside → Sources → Type 0
AreSought names before sources = (files : List StoredFile) → before.files ≡ Some files → seekable_of files (seek_inputs names) ≡ Ok sources

-- How `seek` ends: an input stopped it, memory ran out, no top channel was found, or one was found.
pub data SeekEnds (names : SeekNames) (before after : Outside) (status : ℕ) (found below : Option Record) : Type 0 where
  SeekStopped : IsHalted (seek_inputs names) before after status → found ≡ None → below ≡ None →
      SeekEnds names before after status found below
  SeekOutOfMemory : EndsOutOfMemory before after status found → below ≡ None → SeekEnds names before after status found below
  -- Up to the scenario's own top the start set doesn't fit or its test is undecided, and no file changes.
  NoTop : (sources : Sources) (rec : Record) → AreSought names before sources → IsSeekable (base_of sources) →
      IsRefutedRecordOf (inputs_at (base_of sources) sources.scenario.top) rec →
      status ≡ START_UNFIT → found ≡ Some rec → below ≡ None → IsLinePrinted before after unfit_line → after.files ≡ before.files →
      SeekEnds names before after status found below
  TopOpen : (sources : Sources) (rec : Record) → AreSought names before sources → IsSeekable (base_of sources) →
      IsOpenRecordOf (inputs_at (base_of sources) sources.scenario.top) rec →
      status ≡ START_OPEN → found ≡ Some rec → below ≡ None → IsLinePrinted before after open_line → after.files ≡ before.files →
      SeekEnds names before after status found below
  -- The channels are stored and then the top printed, up to the first failure. The second record is of one channel less, if the
  -- top is above 14.
  TopFound : (sources : Sources) (x : LeastTop) → AreSought names before sources → IsSeekable (base_of sources) →
      IsLeastTop (base_of sources) x →
      found ≡ Some x.rec → below ≡ x.below →
      Delivers (named names.channels (channels_text x.rec.map) ∷ []) (top_text x.top x.is_open) (top_status x.is_open) before after status →
      SeekEnds names before after status found below

-- Where the folder's files are modelled, the file of this name holds exactly these bytes, no more than the limit.
abbrev pub IsHeldWithin : ℕ → List ℕ → Outside → List ℕ → Type 0
IsHeldWithin most name before text =
    (files : List StoredFile) → before.files ≡ Some files → (bytes_of files name ≡ Some text) × (length text ≤ most)

-- Where the folder's files are modelled, the file of this name holds these bytes, no more than an input file may have.
abbrev pub IsFileHeld : List ℕ → Outside → List ℕ → Type 0
IsFileHeld name before text = IsHeldWithin file_limit name before text

-- Where the folder's files are modelled, the transcript's file holds these bytes, no more than a transcript may have.
abbrev pub IsTextHeld : VerifyNames → Outside → List ℕ → Type 0
IsTextHeld names before text = IsHeldWithin transcript_limit names.transcript before text

-- The file of this name was not loaded, and the line says so. Either it can't be read, and a steady folder doesn't have it; or it
-- has more bytes than the limit.
pub data IsNotLoaded (most : ℕ) (name : List ℕ) (before after : Outside) (status : ℕ) : Type 0 where
  Unloaded : status ≡ UNREAD → HasRisen before.faults after.faults →
      ((files : List StoredFile) → before.files ≡ Some files → before.steady ≡ true → bytes_of files name ≡ None) →
      IsLinePrinted before after (unread_line name) → IsNotLoaded most name before after status
  LongText : status ≡ REFUSED →
      ((files : List StoredFile) → before.files ≡ Some files → (bytes : List ℕ) × (bytes_of files name ≡ Some bytes) × (most < length bytes)) →
      IsLinePrinted before after (long_line name) → IsNotLoaded most name before after status

-- How `verify` ends: an input stopped it, memory ran out, the transcript was not loaded, or the transcript is not sound.
-- Otherwise the transcript is sound, and the result of its record was printed, or the sink failed at it. No file changes.
pub data VerifyEnds (names : VerifyNames) (before after : Outside) (status : ℕ) (found : Option Record) : Type 0 where
  VerifyStopped : IsHalted names.inputs before after status → found ≡ None → VerifyEnds names before after status found
  VerifyOutOfMemory : EndsOutOfMemory before after status found → VerifyEnds names before after status found
  NotLoaded : (inputs : Inputs) → AreInputsOf names.inputs before inputs → IsNotLoaded transcript_limit names.transcript before after status →
      found ≡ None → after.files ≡ before.files → VerifyEnds names before after status found
  NotSound : (inputs : Inputs) (text : List ℕ) (fault : TranscriptFault) → AreInputsOf names.inputs before inputs →
      CanBeNamed inputs → IsTextHeld names before text → verified inputs text ≡ Err fault → status ≡ NOT_SHOWN → found ≡ None →
      IsLinePrinted before after (fault_line names.transcript fault) → after.files ≡ before.files →
      VerifyEnds names before after status found
  Sound : (inputs : Inputs) (text : List ℕ) (rec : Record) → AreInputsOf names.inputs before inputs → CanBeNamed inputs →
      IsTextHeld names before text → verified inputs text ≡ Ok rec → IsRecordIn rec.order inputs rec → found ≡ Some rec →
      IsPrinted (result_of rec.order inputs (undecided_of rec.steps)) (done_status (undecided_of rec.steps)) before after status →
      VerifyEnds names before after status found

-- The transcript beside these inputs is sound and shows this record of a completed auction. Where the folder's files are
-- modelled, they hold the inputs and the transcript.
pub record IsShown (names : VerifyNames) (before : Outside) (inputs : Inputs) (rec : Record) : Type 0 where
  pub accepted : AreInputsOf names.inputs before inputs
  pub named : CanBeNamed inputs
  pub text : List ℕ
  pub held : IsTextHeld names before text
  pub sound : verified inputs text ≡ Ok rec
  pub own : IsRecordIn rec.order inputs rec

-- The texts of an import with their names, in the order in which they are stored: result, transcript.
abbrev pub pair_of_texts : ImportNames → List ℕ → List ℕ → List NamedText
pair_of_texts names result transcript = named names.result result ∷ named names.transcript transcript ∷ []

-- What an import stores of the record with the settled step: the result and the transcript.
abbrev pub import_texts : ImportNames → Inputs → Record → List NamedText
import_texts names inputs rec =
    pair_of_texts names (result_of rec.order inputs (undecided_of rec.steps)) (transcript_text inputs.scenario inputs.book rec)

-- How `import` ends: as `verify` without a record, out of memory, without settling the step, or with the step settled. If the
-- step is settled, the new record's two texts are stored and then its summary printed, up to the first failure.
pub data ImportEnds (names : ImportNames) (before after : Outside) (status : ℕ) (found : Option Record) : Type 0 where
  NothingShown : VerifyEnds names.shown before after status found → found ≡ None → ImportEnds names before after status found
  ImportOutOfMemory : EndsOutOfMemory before after status found → ImportEnds names before after status found
  -- The step doesn't exist or isn't undecided.
  NoOpenStep : (inputs : Inputs) (rec : Record) (fault : StepFault) → IsShown names.shown before inputs rec →
      open_fault (step_numbered rec.steps names.step) ≡ Some fault → status ≡ NOT_SETTLED → found ≡ None →
      IsLinePrinted before after (step_line names.step fault) → after.files ≡ before.files → ImportEnds names before after status found
  -- The log was not loaded.
  NoLog : (inputs : Inputs) (rec : Record) → IsShown names.shown before inputs rec →
      open_fault (step_numbered rec.steps names.step) ≡ None → IsNotLoaded file_limit names.proof before after status →
      found ≡ None → after.files ≡ before.files → ImportEnds names before after status found
  -- The log is rejected, or it doesn't refute the step's set.
  NotSettled : (inputs : Inputs) (rec : Record) (log : List ℕ) (fault : SettleErr) → IsShown names.shown before inputs rec →
      open_fault (step_numbered rec.steps names.step) ≡ None → IsFileHeld names.proof before log →
      settled_text inputs.book rec names.step log ≡ Err fault → status ≡ NOT_SETTLED → found ≡ None →
      IsLinePrinted before after (unsettled_line names.proof fault) → after.files ≡ before.files → ImportEnds names before after status found
  -- The new record can be written and read again if the channels are those of a file.
  Settled : (inputs : Inputs) (rec : Record) (log : List ℕ) (new : Record) → IsShown names.shown before inputs rec →
      open_fault (step_numbered rec.steps names.step) ≡ None → IsFileHeld names.proof before log →
      settled_text inputs.book rec names.step log ≡ Ok new → IsRecordIn new.order inputs new → IsHeld new → found ≡ Some new →
      Delivers (import_texts names inputs new) (summary_in new.order inputs (undecided_of new.steps))
      (done_status (undecided_of new.steps)) before after status →
      ImportEnds names before after status found

-- How `make` ends: memory ran out before any store, a store was not done, or all three files are stored. In the last case memory
-- ran out, or the auction was completed and its summary printed, or the sink failed at the summary.
pub data MakeEnds (names : MakeNames) (before after : Outside) (status : ℕ) (found : Option Record) : Type 0 where
  MakeOutOfMemory : EndsOutOfMemory before after status found → MakeEnds names before after status found
  MakeStopped : StopsAtOne (make_texts names) before after status → found ≡ None → MakeEnds names before after status found
  AuctionOutOfMemory : (between : Outside) → AreAllStored (make_texts names) before between →
      EndsOutOfMemory between after status found → MakeEnds names before after status found
  MakeResult : (between : Outside) (rec : Record) (summary : List ℕ) → AreAllStored (make_texts names) before between →
      HasRun (make_inputs names.seed names.size) rec summary → found ≡ Some rec →
      IsPrinted summary (done_status (undecided_of rec.steps)) between after status →
      MakeEnds names before after status found
