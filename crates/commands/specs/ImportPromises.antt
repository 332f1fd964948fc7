-- What `import` promises, clause by clause.
use Rattle.std.specs.Prelude.{Contains, ◌≡◌, ◌≢◌, ◌⊎◌, ◌<◌, ◌≤◌, ℕ, true, List, [], ◌∷◌, length, map, Option, Some, None, Ok, Err, IsSome, IsTrue, MatchOption}
use Rattle.pack_defs.specs.Lists.{is_in}
use Rattle.pack_defs.specs.ClockRule.{ClockTest, FrozenAt}
use Rattle.pack_defs.specs.ResultRows.{result_rows}
use Rattle.pack_defs.specs.declared.order.Order.{Order}
use Rattle.pack_defs.specs.Threshold.{IsThresholdPrice}
use Rattle.outside_io.specs.Faults.{HasRisen}
use Rattle.outside_io.specs.Files.{StoredFile, bytes_of}
use Rattle.outside_io.specs.Loads.{Writes}
use Rattle.auction_core.specs.declared.record.Record.{Record}
use Rattle.auction_core.specs.declared.record.Step.{Step}
use Rattle.auction_core.specs.Backed.{is_undecided, undecided_of}
use Rattle.auction_core.specs.State.{test_of}
use Rattle.transcript_text.specs.Spelling.{transcript_text}
use Rattle.undecided_tests.specs.Queries.{step_numbered}
use Rattle.undecided_tests.specs.Settled.{decided_row, without_test}
use Rattle.undecided_tests.specs.Settling.{settled_text}
use Rattle.undecided_tests.specs.declared.settle.SettleErr.{SettleErr}
use Rattle.commands.specs.declared.messages.fault.TranscriptFault.{TranscriptFault}
use Rattle.commands.specs.declared.inputs.Inputs.{Inputs}
use Rattle.commands.specs.declared.inputs.input_file.Stop.TheVariants.{Refused}
use Rattle.commands.specs.declared.messages.refusal.Refusal.{Refusal}
use Rattle.commands.specs.declared.settling.StepFault.{StepFault}
use Rattle.commands.specs.Delivery.{AllOthersUnchanged, AreStored, AreStoredUpTo, NamedText}
use Rattle.commands.specs.Ends.{AreInputsOf, IsNotLoaded, IsShown, import_texts, IsStatusOr}
use Rattle.commands.specs.Inputs.{file_limit, inputs_of, transcript_limit}
use Rattle.commands.specs.Outside.{Outside, IsLinePrinted}
use Rattle.commands.specs.Promises.{KeepsRecord, TellsFailures}
use Rattle.commands.specs.Records.{IsRecordIn, done_status, outcome, summary_in}
use Rattle.commands.specs.Messages.{unread_line, unwritten_line}
use Rattle.commands.specs.Settling.{unsettled_line, open_fault, step_line}
use Rattle.commands.specs.Statuses.{DONE, LEFT_OPEN, UNREAD, UNWRITTEN, REFUSED, NO_MEMORY, NOT_SHOWN, NOT_SETTLED}
use Rattle.commands.specs.Verified.{verified}
use Rattle.commands.specs.VerifyPromises.{AreAllFilesPresent, IsGiven, IsSoundTranscript, VerifyPromises}
use Rattle.command_words.specs.Words.{ImportNames}

-- The file of this name holds these bytes of a log, no more than an input file may have.
pub record IsLogIn (files : List StoredFile) (name log : List ℕ) : Type 0 where
  pub modelled : bytes_of files name ≡ Some log
  pub within : length log ≤ file_limit

-- A step that a sound transcript's record shows undecided is settled by the log that a file holds. The new record is of the
-- auction of the inputs, and shows the step by that proof.
pub record IsSettledStep (files : List StoredFile) (names : ImportNames) (found : Option Record) : Type 0 where
  pub sound : IsSoundTranscript files names.shown
  pub step : Step
  pub there : step_numbered sound.rec.steps names.step ≡ Some step
  pub open_before : is_undecided step.shown ≡ true
  pub log : List ℕ
  pub held : IsLogIn files names.proof log
  pub new : Record
  pub settled : settled_text sound.inputs.book sound.rec names.step log ≡ Ok new
  pub recorded : found ≡ Some new
  pub auction : IsRecordIn new.order sound.inputs new
  -- The undecided tests are the old ones without the step's test.
  pub left : undecided_of new.steps ≡ without_test (test_of step) (undecided_of sound.rec.steps)
  -- The rows of the result are the old ones, with that test's row changed from undecided to frozen.
  pub rows : result_rows sound.inputs.scenario (outcome new.order sound.inputs (undecided_of new.steps)) (undecided_of new.steps)
      ≡ map (decided_row (test_of step))
      (result_rows sound.inputs.scenario (outcome sound.rec.order sound.inputs (undecided_of sound.rec.steps)) (undecided_of sound.rec.steps))
  -- Verifying the new record's transcript beside the same inputs returns the new record.
  pub verifiable : verified sound.inputs (transcript_text sound.inputs.scenario sound.inputs.book new) ≡ Ok new

-- The texts of the new record's result and transcript, with their names.
abbrev pub new_texts : {files : List StoredFile} {names : ImportNames} {found : Option Record} → IsSettledStep files names found → List NamedText
new_texts {files} {names} one = import_texts names one.sound.inputs one.new

-- The text of the new record's summary.
abbrev pub new_summary : {files : List StoredFile} {names : ImportNames} {found : Option Record} → IsSettledStep files names found → List ℕ
new_summary one = summary_in one.new.order one.sound.inputs (undecided_of one.new.steps)

-- RESULT and NEWTRANSCRIPT hold the new record's texts, and all other files are unchanged.
abbrev pub AreNewStored : {files : List StoredFile} {names : ImportNames} {found : Option Record} → IsSettledStep files names found → Outside → Type 0
AreNewStored {files} one after = MatchOption after.files ⊥ (λ now. AreStored files now (new_texts one))

-- The step is settled, both texts are stored, and the sink grew by the summary. The status is 0 if no test is undecided, else 1.
pub record IsImported (files : List StoredFile) (names : ImportNames) (before after : Outside) (status : ℕ) (found : Option Record) : Type 0 where
  pub one : IsSettledStep files names found
  pub stored : AreNewStored one after
  pub summary : Writes before.held after.held (new_summary one) (Ok tt)
  pub status_is : status ≡ done_status (undecided_of one.new.steps)

-- The step is settled, and its two texts are stored only up to one name. The text before it, if there is one, is stored; that
-- name may hold anything or be gone; and all other files are unchanged.
pub record IsImportedUpTo (files : List StoredFile) (names : ImportNames) (after : Outside) (found : Option Record) : Type 0 where
  pub one : IsSettledStep files names found
  pub now : List StoredFile
  pub now_modelled : after.files ≡ Some now
  pub part : AreStoredUpTo files now (new_texts one)

-- A store failed in a folder that isn't steady, and its fault count rose. The line names the file.
pub record IsUnimported (files : List StoredFile) (names : ImportNames) (before after : Outside) (found : Option Record) : Type 0 where
  pub risen : HasRisen before.faults after.faults
  pub unsteady : before.steady ≢ true
  pub upto : IsImportedUpTo files names after found
  pub line : IsLinePrinted before after (unwritten_line upto.part.failed.name)

-- The step is settled and both texts are stored, but the sink failed at the summary, for which it did not guarantee room. The
-- sink grew by the summary or by some of it, from the first byte on.
pub record IsUnsummed (files : List StoredFile) (names : ImportNames) (before after : Outside) (found : Option Record) : Type 0 where
  pub one : IsSettledStep files names found
  pub stored : AreNewStored one after
  pub failed : HasRisen before.sink_faults after.sink_faults
  pub unsure : before.sure < length (new_summary one)
  pub summary : IsLinePrinted before after (new_summary one)

-- The step of a sound transcript is undecided, and its log was not loaded.
pub record IsUnlogged (names : ImportNames) (before after : Outside) (status : ℕ) : Type 0 where
  pub inputs : Inputs
  pub rec : Record
  pub shown : IsShown names.shown before inputs rec
  pub open_before : open_fault (step_numbered rec.steps names.step) ≡ None
  pub unloaded : IsNotLoaded file_limit names.proof before after status

-- What `import` promises, by its status and its record.
pub record ImportPromises (names : ImportNames) (before after : Outside) (status : ℕ) (found : Option Record) : Type 0 where
  -- The status is 0, 1, 3, 4, 5, 8, 9 or 10.
  pub statuses : IsTrue (is_in (DONE ∷ LEFT_OPEN ∷ UNREAD ∷ UNWRITTEN ∷ REFUSED ∷ NO_MEMORY ∷ NOT_SHOWN ∷ NOT_SETTLED ∷ []) status)
  -- Of failures and of the record it promises what others do.
  pub failures : TellsFailures before after status
  pub keeps : KeepsRecord before after status found
  -- Over modelled files, at status 0 and 1 the step is settled: 0 exactly if no other test is undecided.
  pub done : (files : List StoredFile) → before.files ≡ Some files → IsTrue (is_in (DONE ∷ LEFT_OPEN ∷ []) status) →
      IsImported files names before after status found
  -- At 0, 1 and 4 there is a record of a completed auction of the inputs, also where the folder's files are not modelled.
  pub recorded : IsTrue (is_in (DONE ∷ LEFT_OPEN ∷ UNWRITTEN ∷ []) status) →
      (inputs : Inputs) × (rec : Record) × AreInputsOf names.shown.inputs before inputs × (found ≡ Some rec) × IsRecordIn rec.order inputs rec
  -- This clause also holds where the folder's files are not modelled. At 0 and 1 the sink grew by the summary of the record, and
  -- the status is 0 exactly if no test is undecided.
  pub summed : IsTrue (is_in (DONE ∷ LEFT_OPEN ∷ []) status) →
      (inputs : Inputs) × (rec : Record) × (found ≡ Some rec) × IsRecordIn rec.order inputs rec
      × (status ≡ done_status (undecided_of rec.steps))
      × Writes before.held after.held (summary_in rec.order inputs (undecided_of rec.steps)) (Ok tt)
  -- At status 0 over modelled files, each bought station is paid its threshold price. This is the greatest admissible value with
  -- which it would have been bought, by the rule in the transcript's order.
  pub paid : (files : List StoredFile) (inputs : Inputs) (rec : Record) (f : FrozenAt) → before.files ≡ Some files →
      inputs_of files names.shown.inputs ≡ Ok inputs → found ≡ Some rec → status ≡ DONE →
      Contains (outcome rec.order inputs []).frozen f → IsThresholdPrice inputs.scenario inputs.book rec.order f.station f.price
  -- Over modelled files, at status 10 the transcript is sound and the line gives the reason. The step doesn't exist or isn't
  -- undecided. Or the step is undecided, and the log's text is rejected or doesn't refute the step's set. Each of these reasons
  -- ends at status 10, unless memory ran out or an unsteady folder failed to read.
  pub refused : (files : List StoredFile) → before.files ≡ Some files → status ≡ NOT_SETTLED →
      (s : IsSoundTranscript files names.shown) × (
      ((fault : StepFault) × (open_fault (step_numbered s.rec.steps names.step) ≡ Some fault) × IsLinePrinted before after (step_line names.step fault))
      ⊎ ((log : List ℕ) × (fault : SettleErr) × IsLogIn files names.proof log × (open_fault (step_numbered s.rec.steps names.step) ≡ None)
      × (settled_text s.inputs.book s.rec names.step log ≡ Err fault) × IsLinePrinted before after (unsettled_line names.proof fault)))
  pub refuses_step : (files : List StoredFile) (s : IsSoundTranscript files names.shown) (fault : StepFault) →
      before.files ≡ Some files → open_fault (step_numbered s.rec.steps names.step) ≡ Some fault → IsStatusOr NOT_SETTLED before status
  pub refuses_log : (files : List StoredFile) (s : IsSoundTranscript files names.shown) (log : List ℕ) (fault : SettleErr) →
      before.files ≡ Some files → open_fault (step_numbered s.rec.steps names.step) ≡ None → IsLogIn files names.proof log →
      settled_text s.inputs.book s.rec names.step log ≡ Err fault → IsStatusOr NOT_SETTLED before status
  -- Over modelled files, if the log settles an undecided step of a sound transcript, the status is 0, 1 or 4. It is 0 or 1 by the
  -- new record's undecided tests. Otherwise memory ran out, or an unsteady folder failed to read.
  pub complete : (files : List StoredFile) (s : IsSoundTranscript files names.shown) (log : List ℕ) (new : Record) →
      before.files ≡ Some files → open_fault (step_numbered s.rec.steps names.step) ≡ None → IsLogIn files names.proof log →
      settled_text s.inputs.book s.rec names.step log ≡ Ok new →
      IsStatusOr (done_status (undecided_of new.steps)) before status ⊎ (status ≡ UNWRITTEN)
  -- At 9 the promises of `verify` hold. At 3 and 5 they hold, or the transcript is sound, its step is undecided, and the log was
  -- not loaded. Over modelled files, a transcript that is not sound ends at 9. An input that is too long or rejected ends at 5. A
  -- transcript or a log that is too long, if the reading comes to it, ends at 5. Otherwise memory ran out, or an unsteady folder
  -- failed to read.
  pub as_verify : status ≡ NOT_SHOWN → VerifyPromises names.shown before after status found
  pub unloaded : IsTrue (is_in (UNREAD ∷ REFUSED ∷ []) status) →
      VerifyPromises names.shown before after status found ⊎ IsUnlogged names before after status
  pub refuses : (files : List StoredFile) (inputs : Inputs) (text : List ℕ) (fault : TranscriptFault) →
      before.files ≡ Some files → IsGiven files names.shown inputs text → verified inputs text ≡ Err fault → IsStatusOr NOT_SHOWN before status
  pub refuses_input : (files : List StoredFile) (why : Refusal) →
      before.files ≡ Some files → inputs_of files names.shown.inputs ≡ Err (Refused why) → IsStatusOr REFUSED before status
  pub refuses_long : (files : List StoredFile) (inputs : Inputs) (bytes : List ℕ) →
      before.files ≡ Some files → inputs_of files names.shown.inputs ≡ Ok inputs → bytes_of files names.shown.transcript ≡ Some bytes →
      transcript_limit < length bytes → IsStatusOr REFUSED before status
  pub refuses_long_log : (files : List StoredFile) (s : IsSoundTranscript files names.shown) (bytes : List ℕ) →
      before.files ≡ Some files → open_fault (step_numbered s.rec.steps names.step) ≡ None → bytes_of files names.proof ≡ Some bytes →
      file_limit < length bytes → IsStatusOr REFUSED before status
  -- At 3, 5, 9 and 10 no file changes. Over modelled files no file changes at any status except RESULT and NEWTRANSCRIPT.
  pub untouched : IsTrue (is_in (UNREAD ∷ REFUSED ∷ NOT_SHOWN ∷ NOT_SETTLED ∷ []) status) → after.files ≡ before.files
  pub others : (files : List StoredFile) → before.files ≡ Some files →
      MatchOption after.files ⊥ (λ now. AllOthersUnchanged files now (names.result ∷ names.transcript ∷ []))
  -- Over a steady folder whose modelled files include all those that `import` reads, the status is not 3. If the transcript in a
  -- steady folder is sound, its step is undecided and only the log is missing, the status is 3 or 8. At 3 the line names the log.
  pub surely_read : (files : List StoredFile) →
      before.files ≡ Some files → before.steady ≡ true → AreAllFilesPresent files names.shown → IsSome (bytes_of files names.proof) → status ≢ UNREAD
  pub missing_log : (files : List StoredFile) (s : IsSoundTranscript files names.shown) →
      before.files ≡ Some files → before.steady ≡ true → open_fault (step_numbered s.rec.steps names.step) ≡ None →
      bytes_of files names.proof ≡ None → (status ≡ NO_MEMORY) ⊎ ((status ≡ UNREAD) × IsLinePrinted before after (unread_line names.proof))
  -- Over modelled files, at status 4 the step is settled, and either a store failed, or both texts are stored and the sink failed at
  -- the summary. If memory ran out and there is a record, the texts are stored up to the one where memory ran out. Status 4 never
  -- comes from a steady folder and a sink that guarantees room for the summary.
  pub stored : (files : List StoredFile) → before.files ≡ Some files → status ≡ UNWRITTEN →
      IsUnimported files names before after found ⊎ IsUnsummed files names before after found
  pub part_stored : (files : List StoredFile) → before.files ≡ Some files → status ≡ NO_MEMORY → IsSome found →
      IsImportedUpTo files names after found
  pub surely_written : (files : List StoredFile) → before.files ≡ Some files → before.steady ≡ true →
      ((inputs : Inputs) (order : Order) (undecided : List ClockTest) → inputs_of files names.shown.inputs ≡ Ok inputs →
      length (summary_in order inputs undecided) ≤ before.sure) → status ≢ UNWRITTEN
