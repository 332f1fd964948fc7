-- What `resume` promises, clause by clause.
use Rattle.std.specs.Prelude.{◌≡◌, ◌⊎◌, ◌++◌, ℕ, List, [], ◌∷◌, Option, Some, None, Ok, Err, IsSome, IsTrue, MatchOption}
use Rattle.pack_defs.specs.Lists.{is_in}
use Rattle.outside_io.specs.Files.{StoredFile, bytes_of}
use Rattle.auction_core.specs.declared.prefix.Prefix.{Prefix}
use Rattle.auction_core.specs.declared.record.Record.{Record}
use Rattle.auction_core.specs.Backed.{undecided_of}
use Rattle.auction_core.specs.NotShown.{order_kept}
use Rattle.commands.specs.declared.messages.fault.TranscriptFault.{TranscriptFault}
use Rattle.commands.specs.declared.inputs.Inputs.{Inputs}
use Rattle.commands.specs.Delivery.{AllOthersUnchanged}
use Rattle.commands.specs.Ends.{AreInputsOf, IsTextHeld, IsStatusOr}
use Rattle.commands.specs.Outside.{Outside, IsLinePrinted}
use Rattle.commands.specs.Promises.{KeepsRecord, TellsFailures}
use Rattle.commands.specs.Records.{IsEndedRecordIn, StartFits, StartUnfit, done_status}
use Rattle.commands.specs.Resume.{ContinuesFrom, begun}
use Rattle.commands.specs.RunPromises.{RunPromises}
use Rattle.commands.specs.Statuses.{DONE, LEFT_OPEN, UNREAD, UNWRITTEN, REFUSED, START_UNFIT, START_OPEN, NO_MEMORY, NOT_SHOWN}
use Rattle.commands.specs.Verifiable.{IsVerifiable}
use Rattle.commands.specs.Verified.{fault_line, verified}
use Rattle.commands.specs.VerifyPromises.{IsGiven, ReadsTranscript}
use Rattle.command_words.specs.Words.{ResumeNames, resume_input_names, output_names}

-- Whether the auction continued from what is kept of the beginning that was read, and each kept step verifies. The record is of the
-- auction of the inputs in the beginning's order, and continues what is kept.
pub record IsResumed (names : ResumeNames) (before after : Outside) (status : ℕ) (found : Option Record) : Type 0 where
  pub inputs : Inputs
  pub accepted : AreInputsOf names.run_files.inputs before inputs
  pub text : List ℕ
  pub held : IsTextHeld (resume_input_names names) before text
  pub kept : Prefix
  pub sound : begun inputs text ≡ Ok kept
  pub rec : Record
  pub recorded : found ≡ Some rec
  pub auction : IsEndedRecordIn (order_kept kept) inputs rec rec.ending
  pub goes_on : ContinuesFrom kept rec
  -- No owners' file is named, so what a run promises of prices applies.
  pub valued : names.run_files.inputs.owners ≡ None
  -- Everything that a run promises holds, in the beginning's order, and `verify` accepts what it writes.
  pub as_run : RunPromises (order_kept kept) names.run_files before after status found
  pub verifiable : IsVerifiable names.run_files.inputs before found
  -- At status 6 and 7 what is kept has no verdict on the start set.
  pub unstarted : IsTrue (is_in (START_UNFIT ∷ START_OPEN ∷ []) status) → kept.start ≡ None

-- What `resume` promises, by its status and its record.
pub record ResumePromises (names : ResumeNames) (before after : Outside) (status : ℕ) (found : Option Record) : Type 0 where
  -- The status is 0, 1 or from 3 to 9.
  pub statuses : IsTrue (is_in (DONE ∷ LEFT_OPEN ∷ UNREAD ∷ UNWRITTEN ∷ REFUSED ∷ START_UNFIT ∷ START_OPEN ∷ NO_MEMORY ∷ NOT_SHOWN ∷ []) status)
  -- Of the inputs and the beginning, which takes the transcript's place, of failures and of the record it promises what others do.
  pub reads : ReadsTranscript (resume_input_names names) before after status
  pub failures : TellsFailures before after status
  pub keeps : KeepsRecord before after status found
  -- If there is a record, the auction continued. There is a record at status 0, 1, 4, 6 and 7, and at 8 there may be one.
  pub resumed : IsSome found → IsResumed names before after status found
  pub recorded : IsTrue (is_in (DONE ∷ LEFT_OPEN ∷ UNWRITTEN ∷ START_UNFIT ∷ START_OPEN ∷ []) status) → IsSome found
  -- In a modelled folder, at status 9 the beginning's text is rejected or a kept step does not verify. The line says which is the
  -- first fault and why. A beginning with a fault of this kind ends at status 9, unless memory ran out or an unsteady folder failed
  -- to read.
  pub refused : (files : List StoredFile) → before.files ≡ Some files → status ≡ NOT_SHOWN →
      (inputs : Inputs) × (text : List ℕ) × IsGiven files (resume_input_names names) inputs text × (fault : TranscriptFault)
      × (begun inputs text ≡ Err fault) × IsLinePrinted before after (fault_line names.prefix fault)
  pub refuses : (files : List StoredFile) (inputs : Inputs) (text : List ℕ) (fault : TranscriptFault) →
      before.files ≡ Some files → IsGiven files (resume_input_names names) inputs text → begun inputs text ≡ Err fault → IsStatusOr NOT_SHOWN before status
  -- In a modelled folder, if each kept step verifies and the start set fits, the auction continues: the status is 0, 1, 4 or 7. The
  -- beginning of any sound transcript ends in the same way, wherever it is cut. Otherwise memory ran out, or an unsteady folder
  -- failed to read.
  pub complete : (files : List StoredFile) (inputs : Inputs) (text : List ℕ) (kept : Prefix) →
      before.files ≡ Some files → IsGiven files (resume_input_names names) inputs text → begun inputs text ≡ Ok kept → StartFits inputs →
      IsStatusOr DONE before status ⊎ IsTrue (is_in (LEFT_OPEN ∷ UNWRITTEN ∷ START_OPEN ∷ []) status)
  pub any_cut : (files : List StoredFile) (inputs : Inputs) (text behind : List ℕ) (rec : Record) →
      before.files ≡ Some files → IsGiven files (resume_input_names names) inputs text → verified inputs (text ++ behind) ≡ Ok rec →
      IsStatusOr DONE before status ⊎ IsTrue (is_in (LEFT_OPEN ∷ UNWRITTEN ∷ START_OPEN ∷ []) status)
  -- A complete sound transcript leaves nothing to continue. In a modelled folder the status is 0, or 1 if a test is undecided, or
  -- 4, unless memory ran out or an unsteady folder failed. At status 0 and 1 the record is the one that the transcript certifies,
  -- and TRANSCRIPT holds the same bytes.
  pub whole_done : (files : List StoredFile) (inputs : Inputs) (text : List ℕ) (rec : Record) →
      before.files ≡ Some files → IsGiven files (resume_input_names names) inputs text → verified inputs text ≡ Ok rec →
      IsStatusOr (done_status (undecided_of rec.steps)) before status ⊎ (status ≡ UNWRITTEN)
  pub whole : (files : List StoredFile) (inputs : Inputs) (text : List ℕ) (rec : Record) →
      before.files ≡ Some files → IsGiven files (resume_input_names names) inputs text → verified inputs text ≡ Ok rec →
      IsTrue (is_in (DONE ∷ LEFT_OPEN ∷ []) status) →
      (found ≡ Some rec) × MatchOption after.files ⊥ (λ new. bytes_of new names.run_files.transcript ≡ Some text)
  -- In a modelled folder, if each kept step verifies and the start set does not fit, the status is 6 or 7. Otherwise memory ran
  -- out, or an unsteady folder failed to read.
  pub unfits : (files : List StoredFile) (inputs : Inputs) (text : List ℕ) (kept : Prefix) →
      before.files ≡ Some files → IsGiven files (resume_input_names names) inputs text → begun inputs text ≡ Ok kept → StartUnfit inputs →
      IsStatusOr START_UNFIT before status ⊎ (status ≡ START_OPEN)
  -- In a modelled folder, no file changes except RESULT, CHANNELS and TRANSCRIPT. No file changes at status 6 and 7.
  pub others : (files : List StoredFile) → before.files ≡ Some files →
      MatchOption after.files ⊥ (λ new. AllOthersUnchanged files new (output_names names.run_files))
  pub unfit_untouched : IsTrue (is_in (START_UNFIT ∷ START_OPEN ∷ []) status) → after.files ≡ before.files
