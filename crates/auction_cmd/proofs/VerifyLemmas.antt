-- The promises of `verify` follow from how it ends, case by case.
use Rattle.std.proofs.Common.{◌≡◌, ◌≢◌, ◌⊎◌, ◌<◌, ◌≤◌, ◌∙◌, ℕ, inl, inr, List, [], ◌∷◌, length, refl, sym, subst, arith, Option, Some, None}
use Rattle.std.specs.Prelude.{Contains, Ok, Err, IsTrue}
use Rattle.pack_defs.specs.ClockRule.{FrozenAt}
use Rattle.pack_defs.specs.Lists.{is_in}
use Rattle.pack_defs.specs.Threshold.{IsThresholdPrice}
use Rattle.pack_defs.proofs.ThresholdLaw.{threshold}
use Rattle.outside_io.specs.Faults.{HasRisen}
use Rattle.outside_io.specs.Files.{StoredFile, bytes_of}
use Rattle.outside_io.specs.Loads.{Writes}
use Rattle.auction_core.specs.declared.record.Record.{Record}
use Rattle.auction_core.specs.declared.record.Ending.TheVariants.{Done}
use Rattle.auction_core.specs.Backed.{IsBacked, undecided_of}
use Rattle.transcript_text.specs.RoundTrip.{IsHeld}
use Rattle.transcript_text.specs.Spelling.{transcript_text}
use Rattle.commands.specs.declared.messages.fault.TranscriptFault.{TranscriptFault}
use Rattle.commands.specs.declared.inputs.Inputs.{Inputs}
use Rattle.commands.specs.Delivery.IsPrinted.{Written, CutShort}
use Rattle.commands.specs.Ends.{AreInputsOf, VerifyEnds, IsStatusOr}
use Rattle.commands.specs.Ends.IsNotLoaded.{Unloaded, LongText}
use Rattle.commands.specs.Ends.VerifyEnds.{VerifyStopped, VerifyOutOfMemory, NotLoaded, NotSound, Sound}
use Rattle.commands.specs.Inputs.{inputs_of}
use Rattle.commands.specs.Outside.{Outside, IsLinePrinted}
use Rattle.commands.specs.Records.{IsRecordIn, done_status, outcome, result_of}
use Rattle.commands.specs.Verified.{CanBeNamed, fault_line, verified}
use Rattle.commands.specs.VerifyPromises.{IsGiven, IsVerified, VerifyPromises, verified_text}
use Rattle.command_words.specs.Words.{VerifyNames}
use Rattle.commands.proofs.Halts.{halted-held, same-inputs, stopped-statuses}
use Rattle.commands.proofs.RoundTripLemmas.{record-verified}
use Rattle.commands.proofs.ReadingLemmas.{accepted-ascend, accepted-values}
use Rattle.commands.proofs.Statuses.{apart-lists, done-within, off, one-of, within}
use Rattle.auction_cmd.proofs.LiveLemmas.{verify-live, verify-unsaid}
use Rattle.auction_cmd.proofs.VerifyCases.{verify-backed, verify-memory, verify-none}
use Rattle.auction_cmd.proofs.VerifyReadings.{TextReading, after-reading, read-unread, reads-transcript}
use Rattle.auction_cmd.proofs.VerifyReadings.TextReading.{AtInput, AtText, Read, Starved}
use Rattle.auction_cmd.proofs.VerifyEndLemmas.{is-given, never-four, no-text, not-both-verified, not-long, printed-files, printed-statuses, same-record, same-verified, unloaded-statuses}

module _ (names : VerifyNames) (before after : Outside) (status : ℕ) (found : Option Record) where
  -- ---- the statuses, and what is unchanged

  all-statuses : VerifyEnds names before after status found → IsTrue (is_in (0 ∷ 1 ∷ 3 ∷ 4 ∷ 5 ∷ 8 ∷ 9 ∷ []) status)
  all-statuses (VerifyStopped s none) = within (3 ∷ 5 ∷ 8 ∷ []) (0 ∷ 1 ∷ 3 ∷ 4 ∷ 5 ∷ 8 ∷ 9 ∷ []) status refl (stopped-statuses names.inputs before after status s)
  all-statuses (VerifyOutOfMemory s) = one-of (0 ∷ 1 ∷ 3 ∷ 4 ∷ 5 ∷ 8 ∷ 9 ∷ []) status 8 s.status_is refl
  all-statuses (NotLoaded inputs are n none same) = within (3 ∷ 5 ∷ []) (0 ∷ 1 ∷ 3 ∷ 4 ∷ 5 ∷ 8 ∷ 9 ∷ []) status refl (unloaded-statuses names.transcript before after status n)
  all-statuses (NotSound inputs text fault are can held is nine none said same) = one-of (0 ∷ 1 ∷ 3 ∷ 4 ∷ 5 ∷ 8 ∷ 9 ∷ []) status 9 nine refl
  all-statuses (Sound inputs text rec are can held is of kept p) =
      within (0 ∷ 1 ∷ 4 ∷ []) (0 ∷ 1 ∷ 3 ∷ 4 ∷ 5 ∷ 8 ∷ 9 ∷ []) status refl (printed-statuses (result_of rec.order inputs (undecided_of rec.steps)) (undecided_of rec.steps) before after status p)

  all-untouched : VerifyEnds names before after status found → after.files ≡ before.files
  all-untouched (VerifyStopped s none) = s.files
  all-untouched (VerifyOutOfMemory s) = s.files
  all-untouched (NotLoaded inputs are n none same) = same
  all-untouched (NotSound inputs text fault are can held is nine none said same) = same
  all-untouched (Sound inputs text rec are can held is of kept p) = printed-files (result_of rec.order inputs (undecided_of rec.steps)) (done_status (undecided_of rec.steps)) before after status p

  all-unrecorded : VerifyEnds names before after status found → IsTrue (is_in (3 ∷ 5 ∷ 8 ∷ 9 ∷ []) status) → found ≡ None
  all-unrecorded (VerifyStopped s none) h = none
  all-unrecorded (VerifyOutOfMemory s) h = s.found_is
  all-unrecorded (NotLoaded inputs are n none same) h = none
  all-unrecorded (NotSound inputs text fault are can held is nine none said same) h = none
  all-unrecorded (Sound inputs text rec are can held is of kept p) h =
      absurd (apart-lists (3 ∷ 5 ∷ 8 ∷ 9 ∷ []) (0 ∷ 1 ∷ 4 ∷ []) status refl h (printed-statuses (result_of rec.order inputs (undecided_of rec.steps)) (undecided_of rec.steps) before after status p))

  -- the reading of the inputs and of the transcript
  pub reading : VerifyEnds names before after status found → TextReading names before after status
  reading (VerifyStopped s none) = AtInput s
  reading (VerifyOutOfMemory s) = Starved s.status_is
  reading (NotLoaded inputs are n none same) = AtText inputs are n
  reading (NotSound inputs text fault are can held is nine none said same) = Read inputs text are held (one-of after-reading status 9 nine refl)
  reading (Sound inputs text rec are can held is of kept p) =
      Read inputs text are held (within (0 ∷ 1 ∷ 4 ∷ []) after-reading status refl (printed-statuses (result_of rec.order inputs (undecided_of rec.steps)) (undecided_of rec.steps) before after status p))

  -- ---- a sound transcript

  -- what verifies in a modelled folder
  abbrev as-verified : (files : List StoredFile) (inputs : Inputs) (text : List ℕ) (rec : Record) → IsGiven files names inputs text → found ≡ Some rec → verified inputs text ≡ Ok rec → IsRecordIn rec.order inputs rec → IsVerified files names found
  as-verified files inputs text rec given kept is of = record { inputs = inputs; text = text; given = given; rec = rec; recorded = kept; shown = is; auction = of }

  all-done : (files : List StoredFile) → VerifyEnds names before after status found → before.files ≡ Some files → IsTrue (is_in (0 ∷ 1 ∷ []) status) →
      (v : IsVerified files names found) × (status ≡ done_status (undecided_of v.rec.steps)) × Writes before.held after.held (verified_text v) (Ok tt)
  all-done files (VerifyStopped s none) modelled h = absurd (apart-lists (0 ∷ 1 ∷ []) (3 ∷ 5 ∷ 8 ∷ []) status refl h (stopped-statuses names.inputs before after status s))
  all-done files (VerifyOutOfMemory s) modelled h = absurd (off (0 ∷ 1 ∷ []) status 8 h s.status_is refl)
  all-done files (NotLoaded inputs are n none same) modelled h = absurd (apart-lists (0 ∷ 1 ∷ []) (3 ∷ 5 ∷ []) status refl h (unloaded-statuses names.transcript before after status n))
  all-done files (NotSound inputs text fault are can held is nine none said same) modelled h = absurd (off (0 ∷ 1 ∷ []) status 9 h nine refl)
  all-done files (Sound inputs text rec are can held is of kept (Written done same writes)) modelled h =
      (as-verified files inputs text rec (is-given files names before inputs text modelled are held) kept is of, done, writes)
  all-done files (Sound inputs text rec are can held is of kept (CutShort four same rises less said)) modelled h = absurd (off (0 ∷ 1 ∷ []) status 4 h four refl)

  all-cut : (files : List StoredFile) → VerifyEnds names before after status found → before.files ≡ Some files → status ≡ 4 →
      (v : IsVerified files names found) × HasRisen before.sink_faults after.sink_faults × (before.sure < length (verified_text v)) × IsLinePrinted before after (verified_text v)
  all-cut files (VerifyStopped s none) modelled four = absurd (off (3 ∷ 5 ∷ 8 ∷ []) status 4 (stopped-statuses names.inputs before after status s) four refl)
  all-cut files (VerifyOutOfMemory s) modelled four = let eight = s.status_is in absurd (omega arith)
  all-cut files (NotLoaded inputs are n none same) modelled four = absurd (off (3 ∷ 5 ∷ []) status 4 (unloaded-statuses names.transcript before after status n) four refl)
  all-cut files (NotSound inputs text fault are can held is nine none said same) modelled four = absurd (omega arith)
  all-cut files (Sound inputs text rec are can held is of kept (Written done same writes)) modelled four = absurd (never-four (undecided_of rec.steps) status done four)
  all-cut files (Sound inputs text rec are can held is of kept (CutShort is_four same rises less said)) modelled four =
      (as-verified files inputs text rec (is-given files names before inputs text modelled are held) kept is of, rises, less, said)

  all-printed : VerifyEnds names before after status found → IsTrue (is_in (0 ∷ 1 ∷ []) status) →
      (inputs : Inputs) × (rec : Record) × AreInputsOf names.inputs before inputs × (found ≡ Some rec) × IsRecordIn rec.order inputs rec
      × (status ≡ done_status (undecided_of rec.steps))
      × Writes before.held after.held (result_of rec.order inputs (undecided_of rec.steps)) (Ok tt)
  all-printed (VerifyStopped s none) h = absurd (apart-lists (0 ∷ 1 ∷ []) (3 ∷ 5 ∷ 8 ∷ []) status refl h (stopped-statuses names.inputs before after status s))
  all-printed (VerifyOutOfMemory s) h = absurd (off (0 ∷ 1 ∷ []) status 8 h s.status_is refl)
  all-printed (NotLoaded inputs are n none same) h = absurd (apart-lists (0 ∷ 1 ∷ []) (3 ∷ 5 ∷ []) status refl h (unloaded-statuses names.transcript before after status n))
  all-printed (NotSound inputs text fault are can held is nine none said same) h = absurd (off (0 ∷ 1 ∷ []) status 9 h nine refl)
  all-printed (Sound inputs text rec are can held is of kept (Written done same writes)) h = (inputs, rec, are, kept, of, done, writes)
  all-printed (Sound inputs text rec are can held is of kept (CutShort four same rises less said)) h = absurd (off (0 ∷ 1 ∷ []) status 4 h four refl)

  -- the record, if there is one
  all-recorded : VerifyEnds names before after status found → IsTrue (is_in (0 ∷ 1 ∷ 4 ∷ []) status) →
      (inputs : Inputs) × (rec : Record) × AreInputsOf names.inputs before inputs × (found ≡ Some rec) × IsRecordIn rec.order inputs rec
  all-recorded (VerifyStopped s none) h = absurd (apart-lists (0 ∷ 1 ∷ 4 ∷ []) (3 ∷ 5 ∷ 8 ∷ []) status refl h (stopped-statuses names.inputs before after status s))
  all-recorded (VerifyOutOfMemory s) h = absurd (off (0 ∷ 1 ∷ 4 ∷ []) status 8 h s.status_is refl)
  all-recorded (NotLoaded inputs are n none same) h = absurd (apart-lists (0 ∷ 1 ∷ 4 ∷ []) (3 ∷ 5 ∷ []) status refl h (unloaded-statuses names.transcript before after status n))
  all-recorded (NotSound inputs text fault are can held is nine none said same) h = absurd (off (0 ∷ 1 ∷ 4 ∷ []) status 9 h nine refl)
  all-recorded (Sound inputs text rec are can held is of kept p) h = (inputs, rec, are, kept, of)

  -- if every test is decided, the price is the threshold price
  all-paid : (files : List StoredFile) (inputs : Inputs) (rec : Record) (f : FrozenAt) → names.inputs.owners ≡ None → inputs_of files names.inputs ≡ Ok inputs →
      Contains (outcome rec.order inputs []).frozen f → IsThresholdPrice inputs.scenario inputs.book rec.order f.station f.price
  all-paid files inputs rec f valued is bought =
      threshold inputs.scenario inputs.book rec.order f (accepted-ascend files names.inputs inputs is) (accepted-values files names.inputs inputs valued is) bought

  -- ---- a transcript that is rejected

  all-refused : (files : List StoredFile) → VerifyEnds names before after status found → before.files ≡ Some files → status ≡ 9 →
      (inputs : Inputs) × (text : List ℕ) × IsGiven files names inputs text × (fault : TranscriptFault) × (verified inputs text ≡ Err fault) × IsLinePrinted before after (fault_line names.transcript fault)
  all-refused files (VerifyStopped s none) modelled nine = absurd (off (3 ∷ 5 ∷ 8 ∷ []) status 9 (stopped-statuses names.inputs before after status s) nine refl)
  all-refused files (VerifyOutOfMemory s) modelled nine = let eight = s.status_is in absurd (omega arith)
  all-refused files (NotLoaded inputs are n none same) modelled nine = absurd (off (3 ∷ 5 ∷ []) status 9 (unloaded-statuses names.transcript before after status n) nine refl)
  all-refused files (NotSound inputs text fault are can held is is_nine none said same) modelled nine = (inputs, text, is-given files names before inputs text modelled are held, fault, is, said)
  all-refused files (Sound inputs text rec are can held is of kept p) modelled nine =
      absurd (off (0 ∷ 1 ∷ 4 ∷ []) status 9 (printed-statuses (result_of rec.order inputs (undecided_of rec.steps)) (undecided_of rec.steps) before after status p) nine refl)

  all-refuses : (files : List StoredFile) (inputs : Inputs) (text : List ℕ) (fault : TranscriptFault) → VerifyEnds names before after status found → before.files ≡ Some files → IsGiven files names inputs text → verified inputs text ≡ Err fault → IsStatusOr 9 before status
  all-refuses files inputs text fault (VerifyStopped s none) modelled g err = halted-held names.inputs before after status 9 files inputs s modelled g.accepted
  all-refuses files inputs text fault (VerifyOutOfMemory s) modelled g err = inr (inl s.status_is)
  all-refuses files inputs text fault (NotLoaded own are (Unloaded three rises absent said) none same) modelled g err = inr (inr (three, λ steady. no-text text (bytes_of files names.transcript) (absent files modelled steady) g.modelled))
  all-refuses files inputs text fault (NotLoaded own are (LongText five long said) none same) modelled g err =
      let (bytes, is, more) = long files modelled in
      absurd (not-long files names inputs text bytes g is more)
  all-refuses files inputs text fault (NotSound own t why are can held is nine none said same) modelled g err = inl nine
  all-refuses files inputs text fault (Sound own t rec are can held is of kept p) modelled g err =
      absurd (not-both-verified rec fault (verified own t) is (same-verified files names own inputs t text (is-given files names before own t modelled are held) g ∙ err))

  -- a transcript is sound if its numbers can be named
  complete-by : (files : List StoredFile) (inputs : Inputs) (text : List ℕ) (rec : Record) → VerifyEnds names before after status found → before.files ≡ Some files → IsGiven files names inputs text → (CanBeNamed inputs → verified inputs text ≡ Ok rec) →
      IsStatusOr (done_status (undecided_of rec.steps)) before status ⊎ (status ≡ 4)
  complete-by files inputs text rec (VerifyStopped s none) modelled g ok = inl (halted-held names.inputs before after status (done_status (undecided_of rec.steps)) files inputs s modelled g.accepted)
  complete-by files inputs text rec (VerifyOutOfMemory s) modelled g ok = inl (inr (inl s.status_is))
  complete-by files inputs text rec (NotLoaded own are (Unloaded three rises absent said) none same) modelled g ok = inl (inr (inr (three, λ steady. no-text text (bytes_of files names.transcript) (absent files modelled steady) g.modelled)))
  complete-by files inputs text rec (NotLoaded own are (LongText five long said) none same) modelled g ok =
      let (bytes, is, more) = long files modelled in
      absurd (not-long files names inputs text bytes g is more)
  complete-by files inputs text rec (NotSound own t fault are can held is nine none said same) modelled g ok =
      let one : own ≡ inputs = same-inputs own inputs (sym (are files modelled) ∙ g.accepted) in
      absurd (not-both-verified rec fault (verified own t) (same-verified files names own inputs t text (is-given files names before own t modelled are held) g ∙ ok (subst CanBeNamed one can)) is)
  complete-by files inputs text rec (Sound own t r are can held is of kept (Written done same writes)) modelled g ok =
      let one : own ≡ inputs = same-inputs own inputs (sym (are files modelled) ∙ g.accepted) in
      let other : r ≡ rec = same-record r rec (verified own t) is (same-verified files names own inputs t text (is-given files names before own t modelled are held) g ∙ ok (subst CanBeNamed one can)) in
      inl (inl (subst (λ (z : Record). status ≡ done_status (undecided_of z.steps)) other done))
  complete-by files inputs text rec (Sound own t r are can held is of kept (CutShort four same rises less said)) modelled g ok = inr four

  -- the transcript of a backed record has no fault
  all-of_a_record : (files : List StoredFile) (inputs : Inputs) (rec : Record) → VerifyEnds names before after status found → before.files ≡ Some files → IsBacked inputs.scenario inputs.book rec.order rec → rec.ending ≡ Done → IsHeld rec →
      IsGiven files names inputs (transcript_text inputs.scenario inputs.book rec) → status ≢ 9
  all-of_a_record files inputs rec end modelled backed done held g =
      λ nine. elim (complete-by files inputs (transcript_text inputs.scenario inputs.book rec) rec end modelled g (λ can. record-verified files names.inputs inputs rec g.accepted can backed done held)) [
        | inl (inl is) ↦ off (0 ∷ 1 ∷ []) status 9 (subst (λ z. IsTrue (is_in (0 ∷ 1 ∷ []) z)) (sym is) (done-within (undecided_of rec.steps))) nine refl
        | inl (inr (inl eight)) ↦ omega arith
        | inl (inr (inr (three, unsteady))) ↦ omega arith
        | inr four ↦ omega arith
      ]

  -- ---- the sink

  all-unwritten : VerifyEnds names before after status found → status ≡ 4 → HasRisen before.sink_faults after.sink_faults
  all-unwritten (VerifyStopped s none) four = absurd (off (3 ∷ 5 ∷ 8 ∷ []) status 4 (stopped-statuses names.inputs before after status s) four refl)
  all-unwritten (VerifyOutOfMemory s) four = let eight = s.status_is in absurd (omega arith)
  all-unwritten (NotLoaded inputs are n none same) four = absurd (off (3 ∷ 5 ∷ []) status 4 (unloaded-statuses names.transcript before after status n) four refl)
  all-unwritten (NotSound inputs text fault are can held is nine none said same) four = absurd (omega arith)
  all-unwritten (Sound inputs text rec are can held is of kept (Written done same writes)) four = absurd (never-four (undecided_of rec.steps) status done four)
  all-unwritten (Sound inputs text rec are can held is of kept (CutShort is_four same rises less said)) four = rises

  all-surely_printed : (files : List StoredFile) → VerifyEnds names before after status found → before.files ≡ Some files →
      ((inputs : Inputs) (text : List ℕ) (rec : Record) → IsGiven files names inputs text → verified inputs text ≡ Ok rec → length (result_of rec.order inputs (undecided_of rec.steps)) ≤ before.sure) → status ≢ 4
  all-surely_printed files (VerifyStopped s none) modelled room = λ four. off (3 ∷ 5 ∷ 8 ∷ []) status 4 (stopped-statuses names.inputs before after status s) four refl
  all-surely_printed files (VerifyOutOfMemory s) modelled room = let eight = s.status_is in λ four. omega arith
  all-surely_printed files (NotLoaded inputs are n none same) modelled room = λ four. off (3 ∷ 5 ∷ []) status 4 (unloaded-statuses names.transcript before after status n) four refl
  all-surely_printed files (NotSound inputs text fault are can held is nine none said same) modelled room = λ four. omega arith
  all-surely_printed files (Sound inputs text rec are can held is of kept (Written done same writes)) modelled room = never-four (undecided_of rec.steps) status done
  all-surely_printed files (Sound inputs text rec are can held is of kept (CutShort is_four same rises less said)) modelled room =
      let enough = room inputs text rec (is-given files names before inputs text modelled are held) is in
      absurd (omega arith)

-- the promises of `verify`
pub verify-promises : (names : VerifyNames) (before after : Outside) (status : ℕ) (found : Option Record) → VerifyEnds names before after status found → VerifyPromises names before after status found
verify-promises names before after status found end = record {
  statuses = all-statuses names before after status found end;
  untouched = all-untouched names before after status found end;
  reads = reads-transcript names before after status (reading names before after status found end);
  checks = record {
    refused = λ files modelled nine. all-refused names before after status found files end modelled nine;
    refuses = λ files inputs text fault modelled g err. all-refuses names before after status found files inputs text fault end modelled g err;
    of_a_record = λ files inputs rec modelled backed done held g. all-of_a_record names before after status found files inputs rec end modelled backed done held g;
  };
  failures = record {
    unread = read-unread names before after status (reading names before after status found end);
    unwritten = λ four. inr (all-unwritten names before after status found end four);
    memory = verify-memory names before after status found end;
  };
  keeps = record {
    backed = verify-backed names before after status found end;
    unrecorded = λ h. verify-none names before after status found end (within (3 ∷ 5 ∷ 9 ∷ 10 ∷ []) (2 ∷ 3 ∷ 5 ∷ 9 ∷ 10 ∷ []) status refl h);
    untouched = λ none. all-untouched names before after status found end;
  };
  live = λ files owners modelled named some. verify-live before after status found files names owners end modelled named some;
  without_owners = λ files modelled none. verify-unsaid before after status found files names end modelled none;
  done = λ files modelled h. all-done names before after status found files end modelled h;
  cut = λ files modelled four. all-cut names before after status found files end modelled four;
  unrecorded = all-unrecorded names before after status found end;
  paid = λ files inputs rec f modelled valued is kept zero bought. all-paid names before after status found files inputs rec f valued is bought;
  printed = all-printed names before after status found end;
  recorded = all-recorded names before after status found end;
  complete = λ files inputs text rec modelled g ok. complete-by names before after status found files inputs text rec end modelled g (λ can. ok);
  of_a_record = λ files inputs rec modelled backed done held g.
      complete-by names before after status found files inputs (transcript_text inputs.scenario inputs.book rec) rec end modelled g
      (λ can. record-verified files names.inputs inputs rec g.accepted can backed done held);
  unwritten = all-unwritten names before after status found end;
  surely_printed = λ files modelled room. all-surely_printed names before after status found files end modelled room;
}
