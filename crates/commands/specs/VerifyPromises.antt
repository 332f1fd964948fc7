-- What `verify` promises, clause by clause.
use Rattle.std.specs.Prelude.{Contains, ◌≡◌, ◌≢◌, ◌⊎◌, ◌<◌, ◌≤◌, ℕ, true, List, [], ◌∷◌, length, Option, Some, None, Ok, Err, IsSome, IsTrue, MatchOption, ⊤}
use Rattle.pack_defs.specs.Lists.{is_in}
use Rattle.pack_defs.specs.ClockRule.{FrozenAt}
use Rattle.pack_defs.specs.Threshold.{IsThresholdPrice}
use Rattle.outside_io.specs.Faults.{HasRisen}
use Rattle.outside_io.specs.Files.{StoredFile, bytes_of}
use Rattle.outside_io.specs.Loads.{Writes}
use Rattle.auction_core.specs.declared.record.Ending.TheVariants.{Done}
use Rattle.auction_core.specs.declared.record.Record.{Record}
use Rattle.auction_core.specs.Backed.{IsBacked, undecided_of}
use Rattle.transcript_text.specs.RoundTrip.{IsHeld}
use Rattle.transcript_text.specs.Spelling.{transcript_text}
use Rattle.commands.specs.declared.messages.fault.TranscriptFault.{TranscriptFault}
use Rattle.commands.specs.declared.inputs.Inputs.{Inputs}
use Rattle.commands.specs.declared.inputs.input_file.Stop.TheVariants.{CannotRead, Refused}
use Rattle.command_words.specs.declared.run_words.Input.{Input}
use Rattle.commands.specs.declared.messages.refusal.Refusal.{Refusal}
use Rattle.commands.specs.Ends.{AreInputsOf, IsStatusOr}
use Rattle.commands.specs.Inputs.{inputs_of, transcript_limit}
use Rattle.commands.specs.LivePromises.{IsLive}
use Rattle.commands.specs.Outside.{Outside, IsLinePrinted}
use Rattle.commands.specs.Promises.{KeepsRecord, TellsFailures}
use Rattle.commands.specs.Records.{IsRecordIn, done_status, outcome, result_of}
use Rattle.commands.specs.Refusal.{refusal_line}
use Rattle.command_words.specs.Words.{name_of}
use Rattle.commands.specs.Messages.{long_line, unread_line}
use Rattle.commands.specs.Statuses.{DONE, LEFT_OPEN, UNREAD, UNWRITTEN, REFUSED, NO_MEMORY, NOT_SHOWN}
use Rattle.commands.specs.Verified.{fault_line, verified}
use Rattle.command_words.specs.Words.{VerifyNames}

-- The files hold these inputs and this text of a transcript, which is within the transcript limit.
pub record IsGiven (files : List StoredFile) (names : VerifyNames) (inputs : Inputs) (text : List ℕ) : Type 0 where
  pub accepted : inputs_of files names.inputs ≡ Ok inputs
  pub modelled : bytes_of files names.transcript ≡ Some text
  pub within : length text ≤ transcript_limit

-- The transcript that the files hold is sound.
pub record IsSoundTranscript (files : List StoredFile) (names : VerifyNames) : Type 0 where
  pub inputs : Inputs
  pub text : List ℕ
  pub given : IsGiven files names inputs text
  pub rec : Record
  pub shown : verified inputs text ≡ Ok rec

-- The transcript that the files hold is sound, and its record is of the auction of the inputs in the transcript's order. The
-- record's result is the clock rule's, with the record's undecided tests. Its map has exactly the stations on air at the end and
-- violates no row.
pub record IsVerified (files : List StoredFile) (names : VerifyNames) (found : Option Record) : Type 0 where
  pub inputs : Inputs
  pub text : List ℕ
  pub given : IsGiven files names inputs text
  pub rec : Record
  pub recorded : found ≡ Some rec
  pub shown : verified inputs text ≡ Ok rec
  pub auction : IsRecordIn rec.order inputs rec

-- The text of that record's result.
abbrev pub verified_text : {files : List StoredFile} {names : VerifyNames} {found : Option Record} → IsVerified files names found → List ℕ
verified_text v = result_of v.rec.order v.inputs (undecided_of v.rec.steps)

-- All files that `verify` reads are there: domains, rows, scenario, transcript, and the owners' file if one is named.
pub record AreAllFilesPresent (files : List StoredFile) (names : VerifyNames) : Type 0 where
  pub domains : IsSome (bytes_of files names.inputs.domains)
  pub rows : IsSome (bytes_of files names.inputs.rows)
  pub scenario : IsSome (bytes_of files names.inputs.scenario)
  pub owners : MatchOption names.inputs.owners ⊤ (λ name. IsSome (bytes_of files name))
  pub transcript : IsSome (bytes_of files names.transcript)

-- What a command promises of the inputs and of the transcript, if it reads no other file.
pub record ReadsTranscript (names : VerifyNames) (before after : Outside) (status : ℕ) : Type 0 where
  -- Over modelled files, at status 5 an input is too long or rejected, or the inputs are accepted and the transcript is too long.
  -- The line says which. Files of this kind end at status 5, unless memory ran out or an unsteady folder failed.
  pub halted : (files : List StoredFile) → before.files ≡ Some files → status ≡ REFUSED →
      ((why : Refusal) × (inputs_of files names.inputs ≡ Err (Refused why)) × IsLinePrinted before after (refusal_line names.inputs why))
      ⊎ ((inputs : Inputs) × (inputs_of files names.inputs ≡ Ok inputs) × (bytes : List ℕ) × (bytes_of files names.transcript ≡ Some bytes)
      × (transcript_limit < length bytes) × IsLinePrinted before after (long_line names.transcript))
  pub refuses_input : (files : List StoredFile) (why : Refusal) →
      before.files ≡ Some files → inputs_of files names.inputs ≡ Err (Refused why) → IsStatusOr REFUSED before status
  pub refuses_long : (files : List StoredFile) (inputs : Inputs) (bytes : List ℕ) →
      before.files ≡ Some files → inputs_of files names.inputs ≡ Ok inputs → bytes_of files names.transcript ≡ Some bytes →
      transcript_limit < length bytes → IsStatusOr REFUSED before status
  -- At status 3 the line names an input or the transcript. Over a steady folder whose modelled files include all of them, the
  -- status is not 3. If a steady folder's reading first stops at a missing file, the line names that file at status 3, or the
  -- status is 8.
  pub unread_says : status ≡ UNREAD →
      ((input : Input) × IsLinePrinted before after (unread_line (name_of names.inputs input))) ⊎ IsLinePrinted before after (unread_line names.transcript)
  pub surely_read : (files : List StoredFile) → before.files ≡ Some files → before.steady ≡ true → AreAllFilesPresent files names → status ≢ UNREAD
  pub missing : (files : List StoredFile) (input : Input) →
      before.files ≡ Some files → before.steady ≡ true → inputs_of files names.inputs ≡ Err (CannotRead input) →
      (status ≡ NO_MEMORY) ⊎ ((status ≡ UNREAD) × IsLinePrinted before after (unread_line (name_of names.inputs input)))
  pub missing_transcript : (files : List StoredFile) (inputs : Inputs) →
      before.files ≡ Some files → before.steady ≡ true → inputs_of files names.inputs ≡ Ok inputs → bytes_of files names.transcript ≡ None →
      (status ≡ NO_MEMORY) ⊎ ((status ≡ UNREAD) × IsLinePrinted before after (unread_line names.transcript))

-- What a command that checks a transcript promises of its faults.
pub record ChecksTranscript (names : VerifyNames) (before after : Outside) (status : ℕ) : Type 0 where
  -- Over modelled files, at status 9 the transcript's text is rejected or one of its steps doesn't verify. The line says which is
  -- the first fault and why. A transcript with a fault of this kind ends at status 9, unless memory ran out or an unsteady folder
  -- failed to read.
  pub refused : (files : List StoredFile) → before.files ≡ Some files → status ≡ NOT_SHOWN →
      (inputs : Inputs) × (text : List ℕ) × IsGiven files names inputs text × (fault : TranscriptFault)
      × (verified inputs text ≡ Err fault) × IsLinePrinted before after (fault_line names.transcript fault)
  pub refuses : (files : List StoredFile) (inputs : Inputs) (text : List ℕ) (fault : TranscriptFault) →
      before.files ≡ Some files → IsGiven files names inputs text → verified inputs text ≡ Err fault → IsStatusOr NOT_SHOWN before status
  -- The transcript of any backed record of a completed auction does not end at 9, in either order, if the record satisfies
  -- `IsHeld`.
  pub of_a_record : (files : List StoredFile) (inputs : Inputs) (rec : Record) →
      before.files ≡ Some files → IsBacked inputs.scenario inputs.book rec.order rec → rec.ending ≡ Done → IsHeld rec →
      IsGiven files names inputs (transcript_text inputs.scenario inputs.book rec) → status ≢ NOT_SHOWN

-- What `verify` promises, by its status and its record.
pub record VerifyPromises (names : VerifyNames) (before after : Outside) (status : ℕ) (found : Option Record) : Type 0 where
  -- The status is 0, 1, 3, 4, 5, 8 or 9.
  pub statuses : IsTrue (is_in (DONE ∷ LEFT_OPEN ∷ UNREAD ∷ UNWRITTEN ∷ REFUSED ∷ NO_MEMORY ∷ NOT_SHOWN ∷ []) status)
  -- No file changes.
  pub untouched : after.files ≡ before.files
  -- Of the inputs and the transcript, of failures and of the record it promises what others do.
  pub reads : ReadsTranscript names before after status
  pub checks : ChecksTranscript names before after status
  pub failures : TellsFailures before after status
  pub keeps : KeepsRecord before after status found
  -- Over modelled files, if an owners' file is named, any record is of the live auction. Otherwise it has no owners.
  pub live : (files : List StoredFile) (owners : List ℕ) →
      before.files ≡ Some files → names.inputs.owners ≡ Some owners → IsSome found → IsLive files names.inputs owners found
  pub without_owners : (files : List StoredFile) →
      before.files ≡ Some files → names.inputs.owners ≡ None → MatchOption found ⊤ (λ rec. rec.scenario.owners ≡ None)
  -- Over modelled files, at status 0 and 1 the transcript is sound and its record's result was printed: 0 exactly if no test is
  -- undecided. Over modelled files, at 4 the transcript is sound and the sink failed at the result, for which it did not
  -- guarantee room. The sink grew by the result or by some of it, from the first byte on. Over any files there is a record of a
  -- completed auction of the inputs at 0, 1 and 4. At 3, 5, 8 and 9 there is none.
  pub done : (files : List StoredFile) → before.files ≡ Some files → IsTrue (is_in (DONE ∷ LEFT_OPEN ∷ []) status) →
      (v : IsVerified files names found) × (status ≡ done_status (undecided_of v.rec.steps))
      × Writes before.held after.held (verified_text v) (Ok tt)
  pub cut : (files : List StoredFile) → before.files ≡ Some files → status ≡ UNWRITTEN →
      (v : IsVerified files names found) × HasRisen before.sink_faults after.sink_faults × (before.sure < length (verified_text v))
      × IsLinePrinted before after (verified_text v)
  pub recorded : IsTrue (is_in (DONE ∷ LEFT_OPEN ∷ UNWRITTEN ∷ []) status) →
      (inputs : Inputs) × (rec : Record) × AreInputsOf names.inputs before inputs × (found ≡ Some rec) × IsRecordIn rec.order inputs rec
  pub unrecorded : IsTrue (is_in (UNREAD ∷ REFUSED ∷ NO_MEMORY ∷ NOT_SHOWN ∷ []) status) → found ≡ None
  -- At status 0 over modelled files without an owners' file, each bought station is paid its threshold price. This is the
  -- greatest admissible value with which it would have been bought, by the rule in the transcript's order.
  pub paid : (files : List StoredFile) (inputs : Inputs) (rec : Record) (f : FrozenAt) → before.files ≡ Some files → names.inputs.owners ≡ None →
      inputs_of files names.inputs ≡ Ok inputs → found ≡ Some rec → status ≡ DONE →
      Contains (outcome rec.order inputs []).frozen f → IsThresholdPrice inputs.scenario inputs.book rec.order f.station f.price
  -- This clause also holds where the folder's files are not modelled. At status 0 and 1 the record is of a completed auction of
  -- the inputs, and its result was printed. The status is 0 exactly if no test is undecided.
  pub printed : IsTrue (is_in (DONE ∷ LEFT_OPEN ∷ []) status) →
      (inputs : Inputs) × (rec : Record) × AreInputsOf names.inputs before inputs × (found ≡ Some rec) × IsRecordIn rec.order inputs rec
      × (status ≡ done_status (undecided_of rec.steps))
      × Writes before.held after.held (result_of rec.order inputs (undecided_of rec.steps)) (Ok tt)
  -- Over modelled files a sound transcript is accepted: the status is 4, or 0 or 1 by its undecided tests. Otherwise memory ran
  -- out, or an unsteady folder failed to read.
  pub complete : (files : List StoredFile) (inputs : Inputs) (text : List ℕ) (rec : Record) →
      before.files ≡ Some files → IsGiven files names inputs text → verified inputs text ≡ Ok rec →
      IsStatusOr (done_status (undecided_of rec.steps)) before status ⊎ (status ≡ UNWRITTEN)
  -- The transcript of any backed record of a completed auction is accepted too, in either order, if the record satisfies
  -- `IsHeld`.
  pub of_a_record : (files : List StoredFile) (inputs : Inputs) (rec : Record) →
      before.files ≡ Some files → IsBacked inputs.scenario inputs.book rec.order rec → rec.ending ≡ Done → IsHeld rec →
      IsGiven files names inputs (transcript_text inputs.scenario inputs.book rec) →
      IsStatusOr (done_status (undecided_of rec.steps)) before status ⊎ (status ≡ UNWRITTEN)
  -- At status 4 the sink's fault count rose. Over modelled files the status is not 4 if the sink guarantees room for the result
  -- of every record that the transcript could show.
  pub unwritten : status ≡ UNWRITTEN → HasRisen before.sink_faults after.sink_faults
  pub surely_printed : (files : List StoredFile) → before.files ≡ Some files →
      ((inputs : Inputs) (text : List ℕ) (rec : Record) → IsGiven files names inputs text → verified inputs text ≡ Ok rec →
      length (result_of rec.order inputs (undecided_of rec.steps)) ≤ before.sure) → status ≢ UNWRITTEN
