-- The promises of `resume` follow from how it ends, case by case. If its auction continues, they follow from those of a run.
use Rattle.std.proofs.Common.{◌≡◌, ◌⊎◌, ◌∙◌, ◌++◌, ℕ, false, inl, inr, List, [], ◌∷◌, refl, sym, ap, subst, arith, Option, Some, None}
use Rattle.std.specs.Prelude.{Ok, Err, IsSome, IsTrue, MatchOption, Result, is_some, ⊤}
use Rattle.std.proofs.lemmas.Bool.{true≢false}
use Rattle.pack_defs.specs.Lists.{is_in}
use Rattle.pack_defs.specs.Packing.{fits}
use Rattle.pack_defs.specs.Prices.{start_set}
use Rattle.pack_defs.specs.declared.order.Order.{Order}
use Rattle.outside_io.specs.Faults.{HasRisen}
use Rattle.outside_io.specs.Files.{StoredFile, bytes_of}
use Rattle.auction_core.specs.declared.prefix.Prefix.{Prefix}
use Rattle.auction_core.specs.declared.record.Ending.TheVariants.{StartRefuted, StartUndecided}
use Rattle.auction_core.specs.declared.record.Record.{Record}
use Rattle.auction_core.specs.Backed.{undecided_of}
use Rattle.auction_core.specs.NotShown.{order_kept}
use Rattle.commands.specs.declared.messages.fault.TranscriptFault.{TranscriptFault}
use Rattle.commands.specs.declared.inputs.Inputs.{Inputs}
use Rattle.transcript_text.specs.Spelling.{transcript_text}
use Rattle.commands.specs.Delivery.{AllOthersUnchanged, AreStored, named}
use Rattle.commands.specs.Ends.{AreInputsOf, Concludes, IsTextHeld, RunEnds, auction_texts, IsStatusOr}
use Rattle.commands.specs.Ends.Concludes.{Unfit, StartOpen, Delivered}
use Rattle.commands.specs.Ends.IsNotLoaded.{Unloaded, LongText}
use Rattle.commands.specs.Ends.RunEnds.{Concluded}
use Rattle.commands.specs.Outside.{Outside, IsLinePrinted}
use Rattle.commands.specs.Promises.{IsSomeRecord}
use Rattle.commands.specs.Records.{IsEndedRecordIn, IsRecordIn, StartFits, StartUnfit, done_status, summary_in}
use Rattle.commands.specs.ResumeEnds.{ResumeEnds}
use Rattle.commands.specs.ResumeEnds.ResumeEnds.{ResumeStopped, ResumeOutOfMemory, PrefixNotLoaded, PrefixRejected, Continued}
use Rattle.auction_cmd.specs.ResumePromises.{IsResumed, ResumePromises}
use Rattle.commands.specs.Resume.{ContinuesFrom, begun}
use Rattle.commands.specs.Messages.{memory_line}
use Rattle.commands.specs.Verified.{CanBeNamed, fault_line, verified}
use Rattle.commands.specs.VerifyPromises.{IsGiven}
use Rattle.command_words.specs.Words.{ResumeNames, RunNames, resume_input_names, output_names}
use Rattle.commands.proofs.Halts.{halted-held, same-inputs, stopped-memory, stopped-statuses}
use Rattle.commands.proofs.DeliveryLemmas.{Ended, ended-of, for-told}
use Rattle.commands.proofs.DeliveryLemmas.Ended.{Both, NotSaid, NotStored, OutOfRoom}
use Rattle.auction_cmd.proofs.ResumeCutLemmas.{cut-begun, verified-fits, whole-again, whole-begun, whole-started}
use Rattle.commands.proofs.ResumeEndLemmas.{no-verdict}
use Rattle.commands.proofs.RunLemmas.{absent, run-backed, run-done, run-ended, run-others, run-untouched, run-unwritten, run-verifiable, IsOnce}
use Rattle.auction_cmd.proofs.RunPromiseLemmas.{run-promises}
use Rattle.commands.proofs.StartLemmas.{at-end, run-complete, run-memory, run-unfits}
use Rattle.commands.proofs.Statuses.{apart-lists, off, one-of, within}
use Rattle.auction_cmd.proofs.VerifyEndLemmas.{is-given, no-text, not-long, same-text, unloaded-statuses}
use Rattle.auction_cmd.proofs.VerifyReadings.{TextReading, after-reading, read-unread, reads-transcript}
use Rattle.auction_cmd.proofs.VerifyReadings.TextReading.{AtInput, AtText, Read, Starved}

-- ---- two readings of one beginning

-- two readings of the given files are equal
same-begun : (files : List StoredFile) (names : ResumeNames) (own inputs : Inputs) (t text : List ℕ) → IsGiven files (resume_input_names names) own t → IsGiven files (resume_input_names names) inputs text → begun own t ≡ begun inputs text
same-begun files names own inputs t text a b =
    let one : own ≡ inputs = same-inputs own inputs (sym a.accepted ∙ b.accepted) in
    let other : t ≡ text = same-text t text (sym a.modelled ∙ b.modelled) in
    ap (λ (i : Inputs). begun i t) one ∙ ap (λ z. begun inputs z) other

-- a beginning that is continued has no fault
not-both-begun : {X : Type 0} (kept : Prefix) (fault : TranscriptFault) (r : Result Prefix TranscriptFault) → r ≡ Ok kept → r ≡ Err fault → X
not-both-begun kept fault r ok err = cc (sym ok ∙ err)

some-same : (a b : Record) → Some a ≡ Some b → a ≡ b
some-same a b e = cc

-- what is stored under the name of the transcript
last-held : (order : Order) (old new : List StoredFile) (names : RunNames) (inputs : Inputs) (rec : Record) → AreStored old new (auction_texts order names inputs rec) → bytes_of new names.transcript ≡ Some (transcript_text inputs.scenario inputs.book rec)
last-held order old new names inputs rec st = st.hold 2 (named [] []) (omega arith)

module _ (names : ResumeNames) (before after : Outside) (status : ℕ) (found : Option Record) where
  -- ---- an auction that continued

  -- what was read, and how the auction concluded
  record IsWent : Type 0 where
    pub inputs : Inputs
    pub text : List ℕ
    pub kept : Prefix
    pub rec : Record
    pub held : AreInputsOf names.run_files.inputs before inputs
    pub named : CanBeNamed inputs
    pub modelled : IsTextHeld (resume_input_names names) before text
    pub sound : begun inputs text ≡ Ok kept
    pub goes : ContinuesFrom kept rec
    pub concludes : Concludes (order_kept kept) names.run_files inputs rec before after status found

  -- `resume` ended as a run does
  as-run : (w : IsWent) → RunEnds (order_kept w.kept) names.run_files before after status found
  as-run w = Concluded w.inputs w.rec w.held w.concludes

  concluded-statuses : (order : Order) (inputs : Inputs) (rec : Record) → Concludes order names.run_files inputs rec before after status found → IsTrue (is_in (0 ∷ 1 ∷ 4 ∷ 6 ∷ 7 ∷ 8 ∷ []) status)
  concluded-statuses order inputs rec (Unfit of six kept said same) = one-of (0 ∷ 1 ∷ 4 ∷ 6 ∷ 7 ∷ 8 ∷ []) status 6 six refl
  concluded-statuses order inputs rec (StartOpen of seven kept said same) = one-of (0 ∷ 1 ∷ 4 ∷ 6 ∷ 7 ∷ 8 ∷ []) status 7 seven refl
  concluded-statuses order inputs rec (Delivered of can held kept d) =
      within (0 ∷ 1 ∷ 4 ∷ 8 ∷ []) (0 ∷ 1 ∷ 4 ∷ 6 ∷ 7 ∷ 8 ∷ []) status refl (at-end order names.run_files before after status found inputs rec d)

  concluded-found : (order : Order) (inputs : Inputs) (rec : Record) → Concludes order names.run_files inputs rec before after status found → found ≡ Some rec
  concluded-found order inputs rec (Unfit of six kept said same) = kept
  concluded-found order inputs rec (StartOpen of seven kept said same) = kept
  concluded-found order inputs rec (Delivered of can held kept d) = kept

  concluded-auction : (order : Order) (inputs : Inputs) (rec : Record) → Concludes order names.run_files inputs rec before after status found → IsEndedRecordIn order inputs rec rec.ending
  concluded-auction order inputs rec (Unfit of six kept said same) = subst (λ e. IsEndedRecordIn order inputs rec e) (sym of.ending) of
  concluded-auction order inputs rec (StartOpen of seven kept said same) = subst (λ e. IsEndedRecordIn order inputs rec e) (sym of.ending) of
  concluded-auction order inputs rec (Delivered of can held kept d) = subst (λ e. IsEndedRecordIn order inputs rec e) (sym of.ending) of

  went-statuses : (w : IsWent) → IsTrue (is_in (0 ∷ 1 ∷ 4 ∷ 6 ∷ 7 ∷ 8 ∷ []) status)
  went-statuses w = concluded-statuses (order_kept w.kept) w.inputs w.rec w.concludes

  went-found : (w : IsWent) → found ≡ Some w.rec
  went-found w = concluded-found (order_kept w.kept) w.inputs w.rec w.concludes

  went-given : (files : List StoredFile) (w : IsWent) → before.files ≡ Some files → IsGiven files (resume_input_names names) w.inputs w.text
  went-given files w modelled = is-given files (resume_input_names names) before w.inputs w.text modelled w.held w.modelled

  -- ---- how far it came

  -- `resume` stopped before; the beginning has a fault; or the auction continued
  data Ending : Type 0 where
    Short : IsTrue (is_in (3 ∷ 5 ∷ 8 ∷ []) status) → found ≡ None → after.files ≡ before.files → Ending
    Rejected : status ≡ 9 → found ≡ None → after.files ≡ before.files → Ending
    On : IsWent → Ending

  way : ResumeEnds names before after status found → Ending
  way (ResumeStopped s none) = Short (stopped-statuses names.run_files.inputs before after status s) none s.files
  way (ResumeOutOfMemory s) = Short (one-of (3 ∷ 5 ∷ 8 ∷ []) status 8 s.status_is refl) s.found_is s.files
  way (PrefixNotLoaded inputs are n none same) = Short (within (3 ∷ 5 ∷ []) (3 ∷ 5 ∷ 8 ∷ []) status refl (unloaded-statuses names.prefix before after status n)) none same
  way (PrefixRejected inputs text fault are can held is nine none said same) = Rejected nine none same
  way (Continued inputs text kept rec are can held is goes c) =
      On (record { inputs = inputs; text = text; kept = kept; rec = rec; held = are; named = can; modelled = held; sound = is; goes = goes; concludes = c })

  no-record : {X : Type 0} → found ≡ None → IsSome found → X
  no-record none some = absurd (true≢false (sym some ∙ ap is_some none))

  -- with a record the auction continued, and also at these statuses
  by-record : ResumeEnds names before after status found → IsSome found → IsWent
  by-record end some = go (way end)
    where
      go : Ending → IsWent
      go (Short s none same) = no-record none some
      go (Rejected nine none same) = no-record none some
      go (On w) = w

  went : ResumeEnds names before after status found → IsTrue (is_in (0 ∷ 1 ∷ 4 ∷ 6 ∷ 7 ∷ []) status) → IsWent
  went end h = go (way end)
    where
      go : Ending → IsWent
      go (Short s none same) = absurd (apart-lists (0 ∷ 1 ∷ 4 ∷ 6 ∷ 7 ∷ []) (3 ∷ 5 ∷ 8 ∷ []) status refl h s)
      go (Rejected nine none same) = absurd (off (0 ∷ 1 ∷ 4 ∷ 6 ∷ 7 ∷ []) status 9 h nine refl)
      go (On w) = w

  at-one : (n : ℕ) → ResumeEnds names before after status found → status ≡ n → IsTrue (is_in (0 ∷ 1 ∷ 4 ∷ 6 ∷ 7 ∷ []) n) → IsWent
  at-one n end is h = went end (one-of (0 ∷ 1 ∷ 4 ∷ 6 ∷ 7 ∷ []) status n is h)

  all-statuses : ResumeEnds names before after status found → IsTrue (is_in (0 ∷ 1 ∷ 3 ∷ 4 ∷ 5 ∷ 6 ∷ 7 ∷ 8 ∷ 9 ∷ []) status)
  all-statuses end = go (way end)
    where
      go : Ending → IsTrue (is_in (0 ∷ 1 ∷ 3 ∷ 4 ∷ 5 ∷ 6 ∷ 7 ∷ 8 ∷ 9 ∷ []) status)
      go (Short s none same) = within (3 ∷ 5 ∷ 8 ∷ []) (0 ∷ 1 ∷ 3 ∷ 4 ∷ 5 ∷ 6 ∷ 7 ∷ 8 ∷ 9 ∷ []) status refl s
      go (Rejected nine none same) = one-of (0 ∷ 1 ∷ 3 ∷ 4 ∷ 5 ∷ 6 ∷ 7 ∷ 8 ∷ 9 ∷ []) status 9 nine refl
      go (On w) = within (0 ∷ 1 ∷ 4 ∷ 6 ∷ 7 ∷ 8 ∷ []) (0 ∷ 1 ∷ 3 ∷ 4 ∷ 5 ∷ 6 ∷ 7 ∷ 8 ∷ 9 ∷ []) status refl (went-statuses w)

  -- ---- the record

  all-recorded : ResumeEnds names before after status found → IsTrue (is_in (0 ∷ 1 ∷ 4 ∷ 6 ∷ 7 ∷ []) status) → IsSome found
  all-recorded end h = subst IsSome (sym (went-found (went end h))) refl

  all-backed : ResumeEnds names before after status found → MatchOption found ⊤ IsSomeRecord
  all-backed end = go (way end)
    where
      go : Ending → MatchOption found ⊤ IsSomeRecord
      go (Short s none same) = absent found none
      go (Rejected nine none same) = absent found none
      go (On w) = run-backed (order_kept w.kept) names.run_files before after status found (as-run w)

  all-unrecorded : ResumeEnds names before after status found → IsTrue (is_in (3 ∷ 5 ∷ 9 ∷ 10 ∷ []) status) → found ≡ None
  all-unrecorded end h = go (way end)
    where
      go : Ending → found ≡ None
      go (Short s none same) = none
      go (Rejected nine none same) = none
      go (On w) = absurd (apart-lists (3 ∷ 5 ∷ 9 ∷ 10 ∷ []) (0 ∷ 1 ∷ 4 ∷ 6 ∷ 7 ∷ 8 ∷ []) status refl h (went-statuses w))

  -- ---- an auction that ended at its start

  unstarted : (order : Order) (inputs : Inputs) (text : List ℕ) (kept : Prefix) (rec : Record) → begun inputs text ≡ Ok kept → ContinuesFrom kept rec → Concludes order names.run_files inputs rec before after status found →
      IsTrue (is_in (6 ∷ 7 ∷ []) status) → kept.start ≡ None
  unstarted order inputs text kept rec is goes (Unfit of six some said same) h = no-verdict inputs text kept rec order StartRefuted is goes of.backed of.ending (λ e. cc)
  unstarted order inputs text kept rec is goes (StartOpen of seven some said same) h = no-verdict inputs text kept rec order StartUndecided is goes of.backed of.ending (λ e. cc)
  unstarted order inputs text kept rec is goes (Delivered of can held some d) h =
      absurd (apart-lists (6 ∷ 7 ∷ []) (0 ∷ 1 ∷ 4 ∷ 8 ∷ []) status refl h (at-end order names.run_files before after status found inputs rec d))

  went-unstarted : (w : IsWent) → IsTrue (is_in (6 ∷ 7 ∷ []) status) → w.kept.start ≡ None
  went-unstarted w h = unstarted (order_kept w.kept) w.inputs w.text w.kept w.rec w.sound w.goes w.concludes h

  -- hence the auction was resumed
  as-resumed : IsOnce names.run_files found → names.run_files.inputs.owners ≡ None → IsWent → IsResumed names before after status found
  as-resumed once valued w = record {
    inputs = w.inputs;
    accepted = w.held;
    text = w.text;
    held = w.modelled;
    kept = w.kept;
    sound = w.sound;
    rec = w.rec;
    recorded = went-found w;
    auction = concluded-auction (order_kept w.kept) w.inputs w.rec w.concludes;
    goes_on = w.goes;
    valued = valued;
    as_run = run-promises (order_kept w.kept) names.run_files before after status found (as-run w) once;
    verifiable = run-verifiable (order_kept w.kept) names.run_files before after status found (as-run w);
    unstarted = went-unstarted w;
  }

  -- ---- a beginning that is given

  -- `resume` stopped because memory ran out or by a fault of the outside; the beginning has a fault; or the auction continued
  data GivenWay (inputs : Inputs) (text : List ℕ) : Type 0 where
    Failed : ((n : ℕ) → IsStatusOr n before status) → GivenWay inputs text
    IsInvalid : (fault : TranscriptFault) → begun inputs text ≡ Err fault → status ≡ 9 → GivenWay inputs text
    GoneOn : IsWent → GivenWay inputs text

  given-way : (files : List StoredFile) (inputs : Inputs) (text : List ℕ) → ResumeEnds names before after status found → before.files ≡ Some files → IsGiven files (resume_input_names names) inputs text → GivenWay inputs text
  given-way files inputs text (ResumeStopped s none) modelled g = Failed (λ n. halted-held names.run_files.inputs before after status n files inputs s modelled g.accepted)
  given-way files inputs text (ResumeOutOfMemory s) modelled g = Failed (λ n. inr (inl s.status_is))
  given-way files inputs text (PrefixNotLoaded own are (Unloaded three rises gone said) none same) modelled g = Failed (λ n. inr (inr (three, λ steady. no-text text (bytes_of files names.prefix) (gone files modelled steady) g.modelled)))
  given-way files inputs text (PrefixNotLoaded own are (LongText five long said) none same) modelled g =
      let (bytes, is, more) = long files modelled in
      absurd (not-long files (resume_input_names names) inputs text bytes g is more)
  given-way files inputs text (PrefixRejected own t fault are can held is nine none said same) modelled g =
      IsInvalid fault (sym (same-begun files names own inputs t text (is-given files (resume_input_names names) before own t modelled are held) g) ∙ is) nine
  given-way files inputs text (Continued own t kept rec are can held is goes c) modelled g =
      GoneOn (record { inputs = own; text = t; kept = kept; rec = rec; held = are; named = can; modelled = held; sound = is; goes = goes; concludes = c })

  -- what was continued is what is given
  went-same : (files : List StoredFile) (inputs : Inputs) (text : List ℕ) (w : IsWent) → before.files ≡ Some files → IsGiven files (resume_input_names names) inputs text → begun w.inputs w.text ≡ begun inputs text
  went-same files inputs text w modelled g = same-begun files names w.inputs inputs w.text text (went-given files w modelled) g

  all-unfits : (files : List StoredFile) (inputs : Inputs) (text : List ℕ) (kept : Prefix) → ResumeEnds names before after status found → before.files ≡ Some files → IsGiven files (resume_input_names names) inputs text → begun inputs text ≡ Ok kept → StartUnfit inputs →
      IsStatusOr 6 before status ⊎ (status ≡ 7)
  all-unfits files inputs text kept end modelled g ok unfit = go (given-way files inputs text end modelled g)
    where
      go : GivenWay inputs text → IsStatusOr 6 before status ⊎ (status ≡ 7)
      go (Failed f) = inl (f 6)
      go (IsInvalid fault err nine) = not-both-begun kept fault (begun inputs text) ok err
      go (GoneOn w) = run-unfits (order_kept w.kept) names.run_files before after status found files inputs (as-run w) modelled g.accepted unfit

  all-refuses : (files : List StoredFile) (inputs : Inputs) (text : List ℕ) (fault : TranscriptFault) → ResumeEnds names before after status found → before.files ≡ Some files → IsGiven files (resume_input_names names) inputs text → begun inputs text ≡ Err fault →
      IsStatusOr 9 before status
  all-refuses files inputs text fault end modelled g err = go (given-way files inputs text end modelled g)
    where
      go : GivenWay inputs text → IsStatusOr 9 before status
      go (Failed f) = f 9
      go (IsInvalid own is nine) = inl nine
      go (GoneOn w) = not-both-begun w.kept fault (begun w.inputs w.text) w.sound (went-same files inputs text w modelled g ∙ err)

  all-complete : (files : List StoredFile) (inputs : Inputs) (text : List ℕ) (kept : Prefix) → ResumeEnds names before after status found → before.files ≡ Some files → IsGiven files (resume_input_names names) inputs text → begun inputs text ≡ Ok kept → StartFits inputs →
      IsStatusOr 0 before status ⊎ IsTrue (is_in (1 ∷ 4 ∷ 7 ∷ []) status)
  all-complete files inputs text kept end modelled g ok fit = go (given-way files inputs text end modelled g)
    where
      go : GivenWay inputs text → IsStatusOr 0 before status ⊎ IsTrue (is_in (1 ∷ 4 ∷ 7 ∷ []) status)
      go (Failed f) = inl (f 0)
      go (IsInvalid fault err nine) = not-both-begun kept fault (begun inputs text) ok err
      go (GoneOn w) = run-complete (order_kept w.kept) names.run_files before after status found files inputs (as-run w) modelled g.accepted fit

  -- the beginning of any sound transcript
  all-any_cut : (files : List StoredFile) (inputs : Inputs) (text behind : List ℕ) (rec : Record) → ResumeEnds names before after status found → before.files ≡ Some files → IsGiven files (resume_input_names names) inputs text → verified inputs (text ++ behind) ≡ Ok rec →
      IsStatusOr 0 before status ⊎ IsTrue (is_in (1 ∷ 4 ∷ 7 ∷ []) status)
  all-any_cut files inputs text behind rec end modelled g e = go (given-way files inputs text end modelled g)
    where
      cut : (kept : Prefix) × (begun inputs text ≡ Ok kept)
      cut = cut-begun inputs text behind rec e

      go : GivenWay inputs text → IsStatusOr 0 before status ⊎ IsTrue (is_in (1 ∷ 4 ∷ 7 ∷ []) status)
      go (Failed f) = inl (f 0)
      go (IsInvalid fault err nine) = not-both-begun cut.0 fault (begun inputs text) cut.1 err
      go (GoneOn w) =
          let one : w.inputs ≡ inputs = same-inputs w.inputs inputs (sym (w.held files modelled) ∙ g.accepted) in
          let fit : StartFits inputs = verified-fits files names.run_files.inputs inputs (text ++ behind) rec g.accepted (subst CanBeNamed one w.named) e in
          run-complete (order_kept w.kept) names.run_files before after status found files inputs (as-run w) modelled g.accepted fit

  -- a complete sound transcript ends as it verifies
  all-whole_done : (files : List StoredFile) (inputs : Inputs) (text : List ℕ) (rec : Record) → ResumeEnds names before after status found → before.files ≡ Some files → IsGiven files (resume_input_names names) inputs text → verified inputs text ≡ Ok rec →
      IsStatusOr (done_status (undecided_of rec.steps)) before status ⊎ (status ≡ 4)
  all-whole_done files inputs text rec end modelled g e = go (given-way files inputs text end modelled g)
    where
      one : (w : IsWent) → w.inputs ≡ inputs
      one w = same-inputs w.inputs inputs (sym (w.held files modelled) ∙ g.accepted)

      ok : (w : IsWent) → begun inputs text ≡ Ok w.kept
      ok w = sym (went-same files inputs text w modelled g) ∙ w.sound

      shown : (w : IsWent) → IsRecordIn (order_kept w.kept) w.inputs w.rec → w.rec ≡ rec
      shown w of =
          let mine : IsRecordIn (order_kept w.kept) inputs w.rec = subst (λ (i : Inputs). IsRecordIn (order_kept w.kept) i w.rec) (one w) of in
          let again = whole-again files names.run_files.inputs inputs text rec w.kept w.rec g.accepted (subst CanBeNamed (one w) w.named) e (ok w) w.goes (subst (λ o. IsRecordIn o inputs w.rec) (sym w.goes.order) mine) in
          again.0

      last : (w : IsWent) → w.rec ≡ rec → Ended (auction_texts (order_kept w.kept) names.run_files w.inputs w.rec) (summary_in (order_kept w.kept) w.inputs (undecided_of w.rec.steps)) (done_status (undecided_of w.rec.steps)) before after status →
          IsStatusOr (done_status (undecided_of rec.steps)) before status ⊎ (status ≡ 4)
      last w same (Both done all writes) = inl (inl (done ∙ ap (λ (r : Record). done_status (undecided_of r.steps)) same))
      last w same (NotSaid four all rises less said) = inr four
      last w same (NotStored x among four part rises unsteady said) = inr four
      last w same (OutOfRoom x eight part said) = inl (inr (inl eight))

      by : (w : IsWent) → Concludes (order_kept w.kept) names.run_files w.inputs w.rec before after status found → IsStatusOr (done_status (undecided_of rec.steps)) before status ⊎ (status ≡ 4)
      by w (Unfit of six some said same) =
          let fit : StartFits inputs = verified-fits files names.run_files.inputs inputs text rec g.accepted (subst CanBeNamed (one w) w.named) e in
          absurd (true≢false (sym fit ∙ subst (λ (z : Inputs). fits z.book (start_set z.scenario) ≡ false) (one w) of.starts))
      by w (StartOpen of seven some said same) =
          absurd (whole-started inputs text rec w.kept e (ok w) (went-unstarted w (one-of (6 ∷ 7 ∷ []) status 7 seven refl)))
      by w (Delivered of can held some d) = last w (shown w of) (ended-of _ _ _ before after status d)

      go : GivenWay inputs text → IsStatusOr (done_status (undecided_of rec.steps)) before status ⊎ (status ≡ 4)
      go (Failed f) = inl (f (done_status (undecided_of rec.steps)))
      go (IsInvalid fault err nine) =
          let kept = whole-begun inputs text rec e in
          not-both-begun kept.0 fault (begun inputs text) kept.1 err
      go (GoneOn w) = by w w.concludes

  -- and its record and its text are the same again
  all-whole : (files : List StoredFile) (inputs : Inputs) (text : List ℕ) (rec : Record) → ResumeEnds names before after status found → IsOnce names.run_files found → before.files ≡ Some files → IsGiven files (resume_input_names names) inputs text → verified inputs text ≡ Ok rec →
      IsTrue (is_in (0 ∷ 1 ∷ []) status) → (found ≡ Some rec) × MatchOption after.files ⊥ (λ new. bytes_of new names.run_files.transcript ≡ Some text)
  all-whole files inputs text rec end once modelled g e h =
      let w = went end (within (0 ∷ 1 ∷ []) (0 ∷ 1 ∷ 4 ∷ 6 ∷ 7 ∷ []) status refl h) in
      let d = run-done (order_kept w.kept) names.run_files before after status found files (as-run w) once modelled h in
      let one : inputs ≡ d.inputs = same-inputs inputs d.inputs (sym g.accepted ∙ d.accepted) in
      let goes : ContinuesFrom w.kept d.rec = subst (λ r. ContinuesFrom w.kept r) (some-same w.rec d.rec (sym (went-found w) ∙ d.recorded)) w.goes in
      let can : CanBeNamed d.inputs = subst CanBeNamed (same-inputs w.inputs d.inputs (sym (w.held files modelled) ∙ d.accepted)) w.named in
      let ok : begun inputs text ≡ Ok w.kept = sym (went-same files inputs text w modelled g) ∙ w.sound in
      let again = whole-again files names.run_files.inputs d.inputs text rec w.kept d.rec d.accepted can
      (subst (λ (i : Inputs). verified i text ≡ Ok rec) one e)
      (subst (λ (i : Inputs). begun i text ≡ Ok w.kept) one ok) goes
      (subst (λ o. IsRecordIn o d.inputs d.rec) (sym goes.order) d.auction) in (
        d.recorded ∙ ap Some again.0,
        for-told after.files (λ new. AreStored files new (auction_texts (order_kept w.kept) names.run_files d.inputs d.rec)) (λ new. bytes_of new names.run_files.transcript ≡ Some text)
            (λ new st. last-held (order_kept w.kept) files new names.run_files d.inputs d.rec st ∙ ap Some again.1) d.stored,
      )

  all-refused : (files : List StoredFile) → ResumeEnds names before after status found → before.files ≡ Some files → status ≡ 9 →
      (inputs : Inputs) × (text : List ℕ) × IsGiven files (resume_input_names names) inputs text × (fault : TranscriptFault) × (begun inputs text ≡ Err fault) × IsLinePrinted before after (fault_line names.prefix fault)
  all-refused files (ResumeStopped s none) modelled nine = absurd (off (3 ∷ 5 ∷ 8 ∷ []) status 9 (stopped-statuses names.run_files.inputs before after status s) nine refl)
  all-refused files (ResumeOutOfMemory s) modelled nine = let eight = s.status_is in absurd (omega arith)
  all-refused files (PrefixNotLoaded inputs are n none same) modelled nine = absurd (off (3 ∷ 5 ∷ []) status 9 (unloaded-statuses names.prefix before after status n) nine refl)
  all-refused files (PrefixRejected inputs text fault are can held is is_nine none said same) modelled nine = (inputs, text, is-given files (resume_input_names names) before inputs text modelled are held, fault, is, said)
  all-refused files (Continued inputs text kept rec are can held is goes c) modelled nine = absurd (off (0 ∷ 1 ∷ 4 ∷ 6 ∷ 7 ∷ 8 ∷ []) status 9 (concluded-statuses (order_kept kept) inputs rec c) nine refl)

  -- the reading of the inputs and of the beginning
  reading : ResumeEnds names before after status found → TextReading (resume_input_names names) before after status
  reading (ResumeStopped s none) = AtInput s
  reading (ResumeOutOfMemory s) = Starved s.status_is
  reading (PrefixNotLoaded inputs are n none same) = AtText inputs are n
  reading (PrefixRejected inputs text fault are can held is nine none said same) = Read inputs text are held (one-of after-reading status 9 nine refl)
  reading (Continued inputs text kept rec are can held is goes c) =
      Read inputs text are held (within (0 ∷ 1 ∷ 4 ∷ 6 ∷ 7 ∷ 8 ∷ []) after-reading status refl (concluded-statuses (order_kept kept) inputs rec c))

  -- ---- what was not written, and what is unchanged

  all-unwritten : ResumeEnds names before after status found → status ≡ 4 → HasRisen before.faults after.faults ⊎ HasRisen before.sink_faults after.sink_faults
  all-unwritten end four = let w = at-one 4 end four refl in run-unwritten (order_kept w.kept) names.run_files before after status found (as-run w) four

  stand : (files : List StoredFile) → before.files ≡ Some files → after.files ≡ before.files → MatchOption after.files ⊥ (λ new. AllOthersUnchanged files new (output_names names.run_files))
  stand files modelled same = rw (same ∙ modelled) (λ other ne. refl)

  all-others : (files : List StoredFile) → ResumeEnds names before after status found → IsOnce names.run_files found → before.files ≡ Some files → MatchOption after.files ⊥ (λ new. AllOthersUnchanged files new (output_names names.run_files))
  all-others files end once modelled = go (way end)
    where
      go : Ending → MatchOption after.files ⊥ (λ new. AllOthersUnchanged files new (output_names names.run_files))
      go (Short s none same) = stand files modelled same
      go (Rejected nine none same) = stand files modelled same
      go (On w) = run-others (order_kept w.kept) names.run_files before after status found files (as-run w) once modelled

  all-untouched : ResumeEnds names before after status found → found ≡ None → after.files ≡ before.files
  all-untouched end none = go (way end)
    where
      go : Ending → after.files ≡ before.files
      go (Short s gone same) = same
      go (Rejected nine gone same) = same
      go (On w) = run-untouched (order_kept w.kept) names.run_files before after status found (as-run w) none

  all-ended : ResumeEnds names before after status found → IsTrue (is_in (6 ∷ 7 ∷ []) status) → after.files ≡ before.files
  all-ended end h = let w = went end (within (6 ∷ 7 ∷ []) (0 ∷ 1 ∷ 4 ∷ 6 ∷ 7 ∷ []) status refl h) in run-ended (order_kept w.kept) names.run_files before after status found (as-run w) h

  all-memory : ResumeEnds names before after status found → status ≡ 8 → IsLinePrinted before after memory_line
  all-memory (ResumeStopped s none) eight = stopped-memory names.run_files.inputs before after status s eight
  all-memory (ResumeOutOfMemory s) eight = s.line
  all-memory (PrefixNotLoaded inputs are n none same) eight = absurd (off (3 ∷ 5 ∷ []) status 8 (unloaded-statuses names.prefix before after status n) eight refl)
  all-memory (PrefixRejected inputs text fault are can held is nine none said same) eight = absurd (omega arith)
  all-memory (Continued inputs text kept rec are can held is goes c) eight = run-memory (order_kept kept) names.run_files before after status found (Concluded inputs rec are c) eight

pub resume-promises : (names : ResumeNames) (before after : Outside) (status : ℕ) (found : Option Record) → ResumeEnds names before after status found → IsOnce names.run_files found → (IsSome found → names.run_files.inputs.owners ≡ None) →
    ResumePromises names before after status found
resume-promises names before after status found end once valued = record {
  statuses = all-statuses names before after status found end;
  reads = reads-transcript (resume_input_names names) before after status (reading names before after status found end);
  failures = record {
    unread = read-unread (resume_input_names names) before after status (reading names before after status found end);
    unwritten = all-unwritten names before after status found end;
    memory = all-memory names before after status found end;
  };
  keeps = record {
    backed = all-backed names before after status found end;
    unrecorded = all-unrecorded names before after status found end;
    untouched = all-untouched names before after status found end;
  };
  resumed = λ some. as-resumed names before after status found once (valued some) (by-record names before after status found end some);
  recorded = λ h. all-recorded names before after status found end h;
  unfits = λ files inputs text kept modelled g ok unfit. all-unfits names before after status found files inputs text kept end modelled g ok unfit;
  refused = λ files modelled nine. all-refused names before after status found files end modelled nine;
  refuses = λ files inputs text fault modelled g err. all-refuses names before after status found files inputs text fault end modelled g err;
  complete = λ files inputs text kept modelled g ok fit. all-complete names before after status found files inputs text kept end modelled g ok fit;
  any_cut = λ files inputs text behind rec modelled g e. all-any_cut names before after status found files inputs text behind rec end modelled g e;
  whole_done = λ files inputs text rec modelled g e. all-whole_done names before after status found files inputs text rec end modelled g e;
  whole = λ files inputs text rec modelled g e h. all-whole names before after status found files inputs text rec end once modelled g e h;
  others = λ files modelled. all-others names before after status found files end once modelled;
  unfit_untouched = λ h. all-ended names before after status found end h;
}
