-- How a batch ends: its status, its records, and what it leaves outside.
use Rattle.std.specs.Prelude.{Contains, ◌≡◌, ◌⊎◌, ℕ, Bool, true, List, [], ◌∷◌, Option, Some, None, Result, Ok, Err, ⊤}
use Rattle.batch_list.specs.ListOf.{ListedNames}
use Rattle.outside_io.specs.Files.{StoredFile}
use Rattle.auction_core.specs.declared.record.Record.{Record}
use Rattle.commands.specs.declared.inputs.batch_inputs.Constraints.{Constraints}
use Rattle.commands.specs.declared.inputs.Inputs.{Inputs}
use Rattle.commands.specs.declared.inputs.input_file.Stop.TheVariants.{CannotRead, Refused, NoMemory}
use Rattle.commands.specs.Batch.{BatchStop, Unread, Twice, HeldBatch, batch_of, batch_status, batch_texts, listing_of, status_lines}
use Rattle.command_words.specs.Words.{inputs_with}
use Rattle.commands.specs.Delivery.{Delivers}
use Rattle.commands.specs.Ends.{ExplainsHalt, EndsOutOfMemory}
use Rattle.commands.specs.Inputs.{CountsFault}
use Rattle.commands.specs.Outside.{Outside}
use Rattle.commands.specs.Records.{IsRecordBy}
use Rattle.commands.specs.Messages.{PrintsText, twice_line}
use Rattle.commands.specs.Statuses.{REFUSED}
use Rattle.command_words.specs.Words.{BatchNames, InputNames}

-- What stopped the reading is what the files stop it by. Memory may run out, and a folder that isn't steady may fail to read a
-- file that is there.
abbrev pub StopsAsHeld : {A : Type 0} → Bool → Result A BatchStop → BatchStop → Type 0
StopsAsHeld steady held (Unread names (CannotRead i)) = steady ≡ true → held ≡ Err (Unread names (CannotRead i))
StopsAsHeld steady held (Unread names (Refused why)) = held ≡ Err (Unread names (Refused why))
StopsAsHeld steady held (Unread names NoMemory) = ⊤
StopsAsHeld steady held (Twice name) = held ≡ Err (Twice name)

-- The fault count rose if a file could not be read, and is unchanged otherwise.
abbrev pub CountsStop : ℕ → ℕ → BatchStop → Type 0
CountsStop before now (Unread names why) = CountsFault {A = Inputs} before now (Err why)
CountsStop before now (Twice name) = now ≡ before

-- The status and the line for what stopped the reading.
abbrev pub ExplainsStop : BatchStop → Option (List ℕ) → Option (List ℕ) → ℕ → ℕ → ℕ → Type 0
ExplainsStop (Unread names why) held held' sink_faults sink_faults' status = ExplainsHalt names why held held' sink_faults sink_faults' status
ExplainsStop (Twice name) held held' sink_faults sink_faults' status = (status ≡ REFUSED) × PrintsText held held' sink_faults sink_faults' (twice_line name)

-- The names are those of the constraint files with the list, or of the constraint files with the scenario of one of these lines.
abbrev pub IsUnderOneOf : BatchNames → List ListedNames → InputNames → Type 0
IsUnderOneOf names lines own = (own ≡ inputs_with names names.list) ⊎ ((line : ListedNames) × Contains lines line × (own ≡ inputs_with names line.scenario))

-- The names are those of the constraint files with the list, or with the scenario of one of its lines. Where the folder's files
-- are modelled, the lines are those that the list holds.
abbrev pub IsUnderList : BatchNames → Outside → InputNames → Type 0
IsUnderList names before own = (own ≡ inputs_with names names.list) ⊎ ((lines : List ListedNames) × IsUnderOneOf names lines own
    × ((files : List StoredFile) → before.files ≡ Some files →
    (c : Constraints) × (listing_of files (inputs_with names names.list) ≡ Ok (record { constraints = c; lines = lines }))))

-- If a file stopped the reading, its names have this property.
abbrev pub StopsUnder : (InputNames → Type 0) → BatchStop → Type 0
StopsUnder Under (Unread own why) = Under own
StopsUnder Under (Twice name) = ⊤

-- A reading stopped, among names with this property. Over modelled files it stopped at what they hold, unless memory ran out or
-- an unsteady folder failed. The status and a line report the cause, and no file changed.
pub record IsReadingStopped {A : Type 0} (reads : List StoredFile → Result A BatchStop) (Under : InputNames → Type 0) (before after : Outside) (status : ℕ) : Type 0 where
  pub stop : BatchStop
  pub under : StopsUnder Under stop
  pub modelled : (files : List StoredFile) → before.files ≡ Some files → StopsAsHeld before.steady (reads files) stop
  pub counted : CountsStop before.faults after.faults stop
  pub explains : ExplainsStop stop before.held after.held before.sink_faults after.sink_faults status
  pub files : after.files ≡ before.files

-- The reading of a batch stopped.
abbrev pub IsBatchStopped : BatchNames → Outside → Outside → ℕ → Type 0
IsBatchStopped names before after status = IsReadingStopped (λ files. batch_of files names) (IsUnderList names before) before after status

-- Where the folder's files are modelled, they hold this batch.
abbrev pub IsBatchHeld : BatchNames → Outside → HeldBatch → Type 0
IsBatchHeld names before held = (files : List StoredFile) → before.files ≡ Some files → batch_of files names ≡ Ok held

-- The property holds of each line with its inputs and its record, and the three lists are equally long.
abbrev pub EachOf : (ListedNames → Inputs → Record → Type 0) → List ListedNames → List Inputs → List Record → Type 0
EachOf P [] [] [] = ⊤
EachOf P [] [] (rec ∷ recs) = ⊥
EachOf P [] (i ∷ is) recs = ⊥
EachOf P (line ∷ lines) [] recs = ⊥
EachOf P (line ∷ lines) (i ∷ is) [] = ⊥
EachOf P (line ∷ lines) (i ∷ is) (rec ∷ recs) = P line i rec × EachOf P lines is recs

-- There is a record for each line, in order, and it is of the auction of that line's inputs.
abbrev pub AreRecordsOf : HeldBatch → List Record → Type 0
AreRecordsOf held recs = EachOf (λ line i rec. IsRecordBy i rec rec.ending) held.lines held.inputs recs

-- How `batch` ends: its reading stopped, memory ran out before any store, or all its auctions ended. In the last case their
-- results are stored and then their status lines printed, up to the first failure.
pub data BatchEnds (names : BatchNames) (before after : Outside) (status : ℕ) (batch : List Record) : Type 0 where
  BatchStopped : IsBatchStopped names before after status → batch ≡ [] → BatchEnds names before after status batch
  BatchOutOfMemory : EndsOutOfMemory before after status None → batch ≡ [] → BatchEnds names before after status batch
  BatchRan : (held : HeldBatch) → IsBatchHeld names before held → AreRecordsOf held batch →
      Delivers (batch_texts held batch) (status_lines held.lines batch) (batch_status batch) before after status →
      BatchEnds names before after status batch
