-- The reading of the inputs and of a transcript: how it ends, and what is promised of it.
use Rattle.std.proofs.Common.{◌≡◌, ◌≢◌, ◌⊎◌, ◌<◌, ◌∙◌, ℕ, true, inl, inr, List, [], ◌∷◌, length, refl, sym, arith, Option, Some, None}
use Rattle.std.specs.Prelude.{Ok, Err, IsSome, IsTrue}
use Rattle.pack_defs.specs.Lists.{is_in}
use Rattle.outside_io.specs.Faults.{HasRisen}
use Rattle.outside_io.specs.Files.{StoredFile, bytes_of}
use Rattle.commands.specs.declared.inputs.Inputs.{Inputs}
use Rattle.commands.specs.declared.inputs.input_file.Stop.TheVariants.{CannotRead, Refused}
use Rattle.command_words.specs.declared.run_words.Input.{Input}
use Rattle.commands.specs.declared.messages.refusal.Refusal.{Refusal}
use Rattle.commands.specs.Ends.{AreInputsOf, IsHalted, IsNotLoaded, IsStatusOr, IsTextHeld}
use Rattle.commands.specs.Ends.IsNotLoaded.{Unloaded, LongText}
use Rattle.commands.specs.Inputs.{inputs_of, transcript_limit}
use Rattle.commands.specs.Outside.{Outside, IsLinePrinted}
use Rattle.commands.specs.Promises.{AreInputsPresent}
use Rattle.commands.specs.Refusal.{refusal_line}
use Rattle.commands.specs.Messages.{long_line, unread_line}
use Rattle.commands.specs.VerifyPromises.{AreAllFilesPresent, ReadsTranscript}
use Rattle.command_words.specs.Words.{VerifyNames, name_of}
use Rattle.commands.proofs.Halts.{halted-held, missing-one, not-both, read-there, refused-cause, stopped-unread, stops-at, unread-line}
use Rattle.commands.proofs.Halts.Reading.{Halted}
use Rattle.commands.proofs.Statuses.{off}
use Rattle.auction_cmd.proofs.VerifyEndLemmas.{is-given, no-text, not-long}

-- the statuses after a reading that succeeded
abbrev pub after-reading : List ℕ
after-reading = 0 ∷ 1 ∷ 4 ∷ 6 ∷ 7 ∷ 8 ∷ 9 ∷ 10 ∷ []

-- How the reading ends: it stopped at an input; memory ran out; the transcript was not loaded; or it succeeded.
pub data TextReading (names : VerifyNames) (before after : Outside) (status : ℕ) : Type 0 where
  AtInput : IsHalted names.inputs before after status → TextReading names before after status
  Starved : status ≡ 8 → TextReading names before after status
  AtText : (inputs : Inputs) → AreInputsOf names.inputs before inputs → IsNotLoaded transcript_limit names.transcript before after status → TextReading names before after status
  Read : (inputs : Inputs) (text : List ℕ) → AreInputsOf names.inputs before inputs → IsTextHeld names before text → IsTrue (is_in after-reading status) → TextReading names before after status

pub is-there : (held : Option (List ℕ)) → IsSome held → held ≡ None → ⊥
is-there (Some bytes) some none = cc
is-there None some none = cc

module _ (names : VerifyNames) (before after : Outside) (status : ℕ) where
  read-halted : (files : List StoredFile) → TextReading names before after status → before.files ≡ Some files → status ≡ 5 →
      ((why : Refusal) × (inputs_of files names.inputs ≡ Err (Refused why)) × IsLinePrinted before after (refusal_line names.inputs why))
      ⊎ ((inputs : Inputs) × (inputs_of files names.inputs ≡ Ok inputs) × (bytes : List ℕ) × (bytes_of files names.transcript ≡ Some bytes)
      × (transcript_limit < length bytes) × IsLinePrinted before after (long_line names.transcript))
  read-halted files (AtInput s) modelled five = inl (refused-cause names.inputs before after status files (Halted s) modelled five)
  read-halted files (Starved eight) modelled five = absurd (omega arith)
  read-halted files (AtText inputs are (Unloaded three rises absent said)) modelled five = absurd (omega arith)
  read-halted files (AtText inputs are (LongText is_five long said)) modelled five =
      let (bytes, is, more) = long files modelled in
      inr (inputs, are files modelled, bytes, is, more, said)
  read-halted files (Read inputs text are held on) modelled five = absurd (off after-reading status 5 on five refl)

  read-refuses_input : (files : List StoredFile) (why : Refusal) → TextReading names before after status → before.files ≡ Some files → inputs_of files names.inputs ≡ Err (Refused why) → IsStatusOr 5 before status
  read-refuses_input files why (AtInput s) modelled err = stops-at names.inputs before after status files why (Halted s) modelled err
  read-refuses_input files why (Starved eight) modelled err = inr (inl eight)
  read-refuses_input files why (AtText inputs are n) modelled err = absurd (not-both inputs (Refused why) (sym (are files modelled) ∙ err))
  read-refuses_input files why (Read inputs text are held on) modelled err = absurd (not-both inputs (Refused why) (sym (are files modelled) ∙ err))

  read-refuses_long : (files : List StoredFile) (inputs : Inputs) (bytes : List ℕ) → TextReading names before after status → before.files ≡ Some files → inputs_of files names.inputs ≡ Ok inputs → bytes_of files names.transcript ≡ Some bytes →
      transcript_limit < length bytes → IsStatusOr 5 before status
  read-refuses_long files inputs bytes (AtInput s) modelled ok is more = halted-held names.inputs before after status 5 files inputs s modelled ok
  read-refuses_long files inputs bytes (Starved eight) modelled ok is more = inr (inl eight)
  read-refuses_long files inputs bytes (AtText own are (Unloaded three rises absent said)) modelled ok is more = inr (inr (three, λ steady. no-text bytes (bytes_of files names.transcript) (absent files modelled steady) is))
  read-refuses_long files inputs bytes (AtText own are (LongText five long said)) modelled ok is more = inl five
  read-refuses_long files inputs bytes (Read own t are held on) modelled ok is more =
      absurd (not-long files names own t bytes (is-given files names before own t modelled are held) is more)

  -- the fault of the folder at status 3
  pub read-unread : TextReading names before after status → status ≡ 3 → HasRisen before.faults after.faults
  read-unread (AtInput s) three = stopped-unread names.inputs before after status s three
  read-unread (Starved eight) three = absurd (omega arith)
  read-unread (AtText inputs are (Unloaded is_three rises absent said)) three = rises
  read-unread (AtText inputs are (LongText five long said)) three = absurd (omega arith)
  read-unread (Read inputs text are held on) three = absurd (off after-reading status 3 on three refl)

  read-says : TextReading names before after status → status ≡ 3 →
      ((input : Input) × IsLinePrinted before after (unread_line (name_of names.inputs input))) ⊎ IsLinePrinted before after (unread_line names.transcript)
  read-says (AtInput s) three = inl (unread-line names.inputs before after status (Halted s) three)
  read-says (Starved eight) three = absurd (omega arith)
  read-says (AtText inputs are (Unloaded is_three rises absent said)) three = inr said
  read-says (AtText inputs are (LongText five long said)) three = absurd (omega arith)
  read-says (Read inputs text are held on) three = absurd (off after-reading status 3 on three refl)

  -- the files are the inputs and the transcript
  inputs-there : (files : List StoredFile) → AreAllFilesPresent files names → AreInputsPresent files names.inputs
  inputs-there files there = record { domains = there.domains; rows = there.rows; scenario = there.scenario; owners = there.owners }

  read-surely : (files : List StoredFile) → TextReading names before after status → before.files ≡ Some files → before.steady ≡ true → AreAllFilesPresent files names → status ≢ 3
  read-surely files (AtInput s) modelled steady there = read-there names.inputs before after status files (Halted s) modelled steady (inputs-there files there)
  read-surely files (Starved eight) modelled steady there = λ three. omega arith
  read-surely files (AtText inputs are (Unloaded is_three rises absent said)) modelled steady there = absurd (is-there (bytes_of files names.transcript) there.transcript (absent files modelled steady))
  read-surely files (AtText inputs are (LongText five long said)) modelled steady there = λ three. omega arith
  read-surely files (Read inputs text are held on) modelled steady there = λ three. off after-reading status 3 on three refl

  read-missing : (files : List StoredFile) (input : Input) → TextReading names before after status → before.files ≡ Some files → before.steady ≡ true → inputs_of files names.inputs ≡ Err (CannotRead input) →
      (status ≡ 8) ⊎ ((status ≡ 3) × IsLinePrinted before after (unread_line (name_of names.inputs input)))
  read-missing files input (AtInput s) modelled steady err = missing-one names.inputs before after status files input (Halted s) modelled steady err
  read-missing files input (Starved eight) modelled steady err = inl eight
  read-missing files input (AtText inputs are n) modelled steady err = absurd (not-both inputs (CannotRead input) (sym (are files modelled) ∙ err))
  read-missing files input (Read inputs text are held on) modelled steady err = absurd (not-both inputs (CannotRead input) (sym (are files modelled) ∙ err))

  -- in a steady folder whose files hold inputs, only memory can stop the reading
  out_of_memory : (files : List StoredFile) (inputs : Inputs) → IsStatusOr 8 before status → before.steady ≡ true → status ≡ 8
  out_of_memory files inputs (inl eight) steady = eight
  out_of_memory files inputs (inr (inl eight)) steady = eight
  out_of_memory files inputs (inr (inr (three, unsteady))) steady = absurd (unsteady steady)

  read-missing_transcript : (files : List StoredFile) (inputs : Inputs) → TextReading names before after status → before.files ≡ Some files → before.steady ≡ true → inputs_of files names.inputs ≡ Ok inputs →
      bytes_of files names.transcript ≡ None → (status ≡ 8) ⊎ ((status ≡ 3) × IsLinePrinted before after (unread_line names.transcript))
  read-missing_transcript files inputs (AtInput s) modelled steady ok absent =
      inl (out_of_memory files inputs (halted-held names.inputs before after status 8 files inputs s modelled ok) steady)
  read-missing_transcript files inputs (Starved eight) modelled steady ok absent = inl eight
  read-missing_transcript files inputs (AtText own are (Unloaded three rises gone said)) modelled steady ok absent = inr (three, said)
  read-missing_transcript files inputs (AtText own are (LongText five long said)) modelled steady ok absent =
      let (bytes, is, more) = long files modelled in
      absurd (no-text bytes (bytes_of files names.transcript) absent is)
  read-missing_transcript files inputs (Read own t are held on) modelled steady ok absent =
      absurd (no-text t (bytes_of files names.transcript) absent (held files modelled).0)

  pub reads-transcript : TextReading names before after status → ReadsTranscript names before after status
  reads-transcript r = record {
    halted = λ files modelled five. read-halted files r modelled five;
    refuses_input = λ files why modelled err. read-refuses_input files why r modelled err;
    refuses_long = λ files inputs bytes modelled ok is more. read-refuses_long files inputs bytes r modelled ok is more;
    unread_says = read-says r;
    surely_read = λ files modelled steady there. read-surely files r modelled steady there;
    missing = λ files input modelled steady err. read-missing files input r modelled steady err;
    missing_transcript = λ files inputs modelled steady ok absent. read-missing_transcript files inputs r modelled steady ok absent;
  }
