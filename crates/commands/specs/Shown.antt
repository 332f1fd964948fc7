-- What the steps of `verify` and `import` return: reading and checking a transcript, and reading a log and settling a step by it.
use Rattle.std.specs.Prelude.{◌≡◌, ◌<◌, ◌≤◌, ℕ, Bool, true, List, length, Option, Some, None, Result, Ok, Err, Vec, ⊤}
use Rattle.std.specs.declared.alloc.Global.{Global}
use Rattle.outside_io.specs.Faults.{HasRisen}
use Rattle.outside_io.specs.Files.{StoredFile, bytes_of}
use Rattle.outside_io.specs.declared.folder.LoadErr.{LoadErr}
use Rattle.outside_io.specs.declared.folder.LoadErr.TheVariants.{Failed, TooLong, NoMemory as NoLoad}
use Rattle.auction_core.specs.declared.record.Record.{Record}
use Rattle.transcript_text.specs.declared.error.TextErr.{TextErr}
use Rattle.transcript_text.specs.declared.error.TextErr.TheVariants.{Version, BadLine, Truncated, NoMemory as NoRoom}
use Rattle.transcript_text.specs.Pieces.{HasRead, ReadSoFar}
use Rattle.undecided_tests.specs.Settling.{SettleFails}
use Rattle.undecided_tests.specs.declared.settle.SettleErr.{SettleErr}
use Rattle.undecided_tests.specs.declared.settle.SettleErr.TheVariants as settle
use Rattle.commands.specs.declared.messages.fault.TranscriptFault.{TranscriptFault}
use Rattle.commands.specs.declared.messages.fault.TranscriptFault.TheVariants.{Unread}
use Rattle.commands.specs.declared.inputs.Inputs.{Inputs}
use Rattle.commands.specs.declared.shown.RecordErr.{RecordErr}
use Rattle.commands.specs.declared.shown.RecordErr.TheVariants.{Fault, NoMemory}
use Rattle.commands.specs.Inputs.{file_limit, transcript_limit}
use Rattle.commands.specs.Records.{IsRecordIn}
use Rattle.commands.specs.Messages.{PrintsText, long_line, memory_line, unread_line}
use Rattle.commands.specs.Settling.{unsettled_line}
use Rattle.commands.specs.Statuses.{UNREAD, REFUSED, NO_MEMORY, NOT_SHOWN, NOT_SETTLED}
use Rattle.commands.specs.Verified.{fault_line}

-- The result of reading the transcript of this name. On success the reader has read some bytes; where the files are modelled,
-- they are the file's and within the transcript limit. On failure the fault count rose and a steady folder doesn't have the file,
-- or the file is too long, or memory ran out.
abbrev pub IsTextRead : Inputs → Option (List StoredFile) → Bool → ℕ → ℕ → ℕ → List ℕ → Result ReadSoFar LoadErr → Type 0
IsTextRead inputs modelled steady before now come name (Ok read) =
    (bytes : List ℕ) × HasRead inputs.scenario inputs.book bytes read × (length bytes ≡ come) ×
    ((files : List StoredFile) → modelled ≡ Some files → (bytes_of files name ≡ Some bytes) × (length bytes ≤ transcript_limit))
IsTextRead inputs modelled steady before now come name (Err Failed) =
    HasRisen before now × ((files : List StoredFile) → modelled ≡ Some files → steady ≡ true → bytes_of files name ≡ None)
IsTextRead inputs modelled steady before now come name (Err TooLong) =
    (files : List StoredFile) → modelled ≡ Some files →
    (bytes : List ℕ) × (bytes_of files name ≡ Some bytes) × (transcript_limit < length bytes)
IsTextRead inputs modelled steady before now come name (Err NoLoad) = ⊤

-- The status and the line for a transcript that was not loaded.
abbrev pub ExplainsLoad : List ℕ → LoadErr → Option (List ℕ) → Option (List ℕ) → ℕ → ℕ → ℕ → Type 0
ExplainsLoad name Failed held held' sink_faults sink_faults' status = (status ≡ UNREAD) × PrintsText held held' sink_faults sink_faults' (unread_line name)
ExplainsLoad name TooLong held held' sink_faults sink_faults' status = (status ≡ REFUSED) × PrintsText held held' sink_faults sink_faults' (long_line name)
ExplainsLoad name NoLoad held held' sink_faults sink_faults' status = (status ≡ NO_MEMORY) × PrintsText held held' sink_faults sink_faults' memory_line

-- The result of reading the file of this name. On success the bytes are the file's and within the file limit, where the files are
-- modelled. On failure the fault count rose and a steady folder doesn't have the file, or the file is too long, or memory ran
-- out.
abbrev pub IsFileRead : Option (List StoredFile) → Bool → ℕ → ℕ → List ℕ → Result (Vec ℕ Global) LoadErr → Type 0
IsFileRead modelled steady before now name (Ok bytes) =
    (files : List StoredFile) → modelled ≡ Some files → (bytes_of files name ≡ Some bytes.items) × (length bytes.items ≤ file_limit)
IsFileRead modelled steady before now name (Err Failed) =
    HasRisen before now × ((files : List StoredFile) → modelled ≡ Some files → steady ≡ true → bytes_of files name ≡ None)
IsFileRead modelled steady before now name (Err TooLong) =
    (files : List StoredFile) → modelled ≡ Some files →
    (bytes : List ℕ) × (bytes_of files name ≡ Some bytes) × (file_limit < length bytes)
IsFileRead modelled steady before now name (Err NoLoad) = ⊤

-- Why there is no record for a text that the reader rejected.
abbrev pub not_read : TextErr → RecordErr
not_read Version = Fault (Unread Version)
not_read (BadLine n) = Fault (Unread (BadLine n))
not_read Truncated = Fault (Unread Truncated)
not_read NoRoom = NoMemory

-- The status and the line for a transcript without a record.
abbrev pub ExplainsRecordErr : List ℕ → RecordErr → Option (List ℕ) → Option (List ℕ) → ℕ → ℕ → ℕ → Type 0
ExplainsRecordErr name (Fault fault) held held' sink_faults sink_faults' status =
    (status ≡ NOT_SHOWN) × PrintsText held held' sink_faults sink_faults' (fault_line name fault)
ExplainsRecordErr name NoMemory held held' sink_faults sink_faults' status = (status ≡ NO_MEMORY) × PrintsText held held' sink_faults sink_faults' memory_line

-- The answer is what the definitions make of the transcript: its record, which is of the auction of the inputs, or its first
-- fault. Memory may run out.
abbrev pub IsVerdict : Inputs → Result Record TranscriptFault → Result Record RecordErr → Type 0
IsVerdict inputs wanted (Ok rec) = (wanted ≡ Ok rec) × IsRecordIn rec.order inputs rec
IsVerdict inputs wanted (Err (Fault fault)) = wanted ≡ Err fault
IsVerdict inputs wanted (Err NoMemory) = ⊤

-- ---- A log

-- The status and the line for a log that settled nothing.
abbrev pub ExplainsLog : List ℕ → SettleErr → Option (List ℕ) → Option (List ℕ) → ℕ → ℕ → ℕ → Type 0
ExplainsLog name (settle.Unread why) held held' sink_faults sink_faults' status =
    (status ≡ NOT_SETTLED) × PrintsText held held' sink_faults sink_faults' (unsettled_line name (settle.Unread why))
ExplainsLog name settle.NoRefutation held held' sink_faults sink_faults' status =
    (status ≡ NOT_SETTLED) × PrintsText held held' sink_faults sink_faults' (unsettled_line name settle.NoRefutation)
ExplainsLog name settle.NoMemory held held' sink_faults sink_faults' status = (status ≡ NO_MEMORY) × PrintsText held held' sink_faults sink_faults' memory_line

-- The answer is what the definitions make of the log: the record with the step settled, or the log's fault. The record is of the
-- auction of the inputs. Memory may run out.
abbrev pub IsSettling : Inputs → Result Record SettleErr → Result Record SettleErr → Type 0
IsSettling inputs wanted (Ok rec) = (wanted ≡ Ok rec) × IsRecordIn rec.order inputs rec
IsSettling inputs wanted (Err why) = SettleFails why wanted
