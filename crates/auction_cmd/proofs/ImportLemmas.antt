-- The promises of `import` follow from how it ends, case by case.
use Rattle.std.proofs.Common.{◌≡◌, ◌≢◌, ◌⊎◌, ◌<◌, ◌≤◌, ◌∙◌, ℕ, true, inl, inr, List, [], ◌∷◌, length, refl, sym, ap, subst, arith, Option, Some, None}
use Rattle.std.specs.Prelude.{Contains, Ok, Err, Result, IsSome, IsTrue, MatchOption, is_some, ⊤}
use Rattle.std.proofs.lemmas.Bool.{true≢false}
use Rattle.pack_defs.specs.Lists.{is_in}
use Rattle.pack_defs.specs.ClockRule.{ClockTest, FrozenAt}
use Rattle.pack_defs.specs.Threshold.{IsThresholdPrice}
use Rattle.pack_defs.specs.declared.order.Order.{Order}
use Rattle.pack_defs.proofs.ThresholdLaw.{threshold}
use Rattle.outside_io.specs.Faults.{HasRisen}
use Rattle.outside_io.specs.Files.{StoredFile, bytes_of}
use Rattle.outside_io.specs.Loads.{Writes}
use Rattle.auction_core.specs.Backed.{is_undecided, undecided_of}
use Rattle.auction_core.specs.declared.record.Record.{Record}
use Rattle.auction_core.specs.declared.record.Step.{Step}
use Rattle.undecided_tests.specs.Queries.{step_numbered}
use Rattle.undecided_tests.specs.Settling.{settled_text}
use Rattle.undecided_tests.specs.declared.settle.SettleErr.{SettleErr}
use Rattle.transcript_text.specs.RoundTrip.{IsHeld}
use Rattle.transcript_text.specs.Spelling.{transcript_text}
use Rattle.commands.specs.declared.messages.fault.TranscriptFault.{TranscriptFault}
use Rattle.commands.specs.declared.inputs.Inputs.{Inputs}
use Rattle.commands.specs.declared.inputs.input_file.Stop.TheVariants.{Refused}
use Rattle.commands.specs.declared.messages.refusal.Refusal.{Refusal}
use Rattle.commands.specs.declared.settling.StepFault.{StepFault}
use Rattle.commands.specs.Delivery.{AllOthersUnchanged, AreStored, Delivers, NamedText}
use Rattle.commands.specs.Ends.{AreInputsOf, ImportEnds, IsFileHeld, IsNotLoaded, IsShown, import_texts, IsStatusOr}
use Rattle.commands.specs.Ends.ImportEnds.{NothingShown, ImportOutOfMemory, NoOpenStep, NoLog, NotSettled, Settled}
use Rattle.commands.specs.Ends.IsNotLoaded.{Unloaded, LongText}
use Rattle.commands.specs.ImportPromises.{ImportPromises, IsImported, IsImportedUpTo, IsLogIn, IsSettledStep, IsUnimported, IsUnlogged, IsUnsummed}
use Rattle.commands.specs.Inputs.{file_limit, inputs_of, transcript_limit}
use Rattle.commands.specs.Outside.{Outside, IsLinePrinted}
use Rattle.commands.specs.Promises.{IsSomeRecord}
use Rattle.commands.specs.Records.{IsRecordIn, done_status, outcome, result_of, summary_in}
use Rattle.commands.specs.Messages.{memory_line, unread_line, unwritten_line}
use Rattle.commands.specs.Settling.{unsettled_line, open_fault, step_line}
use Rattle.commands.specs.Verified.{verified}
use Rattle.commands.specs.VerifyPromises.{AreAllFilesPresent, IsGiven, IsSoundTranscript, VerifyPromises}
use Rattle.command_words.specs.Words.{ImportNames, import, repeated_by}
use Rattle.commands.proofs.DeliveryLemmas.{AreApart, Ended, ended-of, for-told, others-up-to}
use Rattle.commands.proofs.DeliveryLemmas.Ended.{Both, NotSaid, NotStored, OutOfRoom}
use Rattle.auction_cmd.proofs.ViewCases.{shown-given, shown-is, shown-not-halted, shown-not-long, shown-not-refused, unshown-or, unshown-statuses}
use Rattle.commands.proofs.ImportEndLemmas.{changed, two-faults, undecided-some}
use Rattle.commands.proofs.OutputNames.{own-imports}
use Rattle.commands.proofs.RoundTripLemmas.{accepted-auction, record-verified}
use Rattle.commands.proofs.ReadingLemmas.{accepted-ascend, accepted-values}
use Rattle.commands.proofs.RunLemmas.{absent, ended-statuses, never, some-record}
use Rattle.commands.proofs.Statuses.{apart-lists, off, one-of, within}
use Rattle.auction_cmd.proofs.VerifyCases.{verify-memory}
use Rattle.auction_cmd.proofs.VerifyEndLemmas.{no-text, over, same-text, unloaded-statuses}
use Rattle.auction_cmd.proofs.VerifyLemmas.{verify-promises}
use Rattle.auction_cmd.proofs.VerifyReadings.{is-there}

-- ---- equal records and texts

-- the step of two equal records
same-fault : (names : ImportNames) (rec other : Record) → rec ≡ other → open_fault (step_numbered rec.steps names.step) ≡ open_fault (step_numbered other.steps names.step)
same-fault names rec other same = ap (λ (r : Record). open_fault (step_numbered r.steps names.step)) same

-- what two equal texts decide
same-settled : (names : ImportNames) (a b : Inputs) (rec other : Record) (s t : List ℕ) → a ≡ b → rec ≡ other → s ≡ t → settled_text a.book rec names.step s ≡ settled_text b.book other names.step t
same-settled names a b rec other s t p q r = λ i. settled_text (p i).book (q i) names.step (r i)

ok-not-err : {X : Type 0} {A B : Type 0} (r : Result A B) (a : A) (b : B) → r ≡ Ok a → r ≡ Err b → X
ok-not-err r a b ok err = cc (sym ok ∙ err)

same-ok : {A B : Type 0} (r : Result A B) (a b : A) → r ≡ Ok a → r ≡ Ok b → a ≡ b
same-ok r a b p q = cc (sym p ∙ q)

-- if there is a record, no output name is given twice
abbrev pub IsOnce : ImportNames → Option Record → Type 0
IsOnce names found = (found ≡ None) ⊎ (repeated_by (import names) ≡ None)

once-named : (names : ImportNames) (found : Option Record) (rec : Record) → found ≡ Some rec → IsOnce names found → repeated_by (import names) ≡ None
once-named names found rec some (inl none) = cc (sym some ∙ none)
once-named names found rec some (inr once) = once

module _ (names : ImportNames) (before after : Outside) (status : ℕ) (found : Option Record) where
  -- how the delivery of an import ended
  ended : (inputs : Inputs) (new : Record) → Delivers (import_texts names inputs new) (summary_in new.order inputs (undecided_of new.steps)) (done_status (undecided_of new.steps)) before after status
      → Ended (import_texts names inputs new) (summary_in new.order inputs (undecided_of new.steps)) (done_status (undecided_of new.steps)) before after status
  ended inputs new d = ended-of (import_texts names inputs new) _ _ before after status d

  -- the two texts have different names
  apart : (inputs : Inputs) (new : Record) → found ≡ Some new → IsOnce names found → AreApart (import_texts names inputs new)
  apart inputs new some once =
      own-imports names (result_of new.order inputs (undecided_of new.steps)) (transcript_text inputs.scenario inputs.book new) (once-named names found new some once)

  delivered-statuses : (inputs : Inputs) (new : Record) → Delivers (import_texts names inputs new) (summary_in new.order inputs (undecided_of new.steps)) (done_status (undecided_of new.steps)) before after status → IsTrue (is_in (0 ∷ 1 ∷ 4 ∷ 8 ∷ []) status)
  delivered-statuses inputs new d = ended-statuses (import_texts names inputs new) _ (undecided_of new.steps) before after status (ended inputs new d)

  import-statuses : ImportEnds names before after status found → IsTrue (is_in (0 ∷ 1 ∷ 3 ∷ 4 ∷ 5 ∷ 8 ∷ 9 ∷ 10 ∷ []) status)
  import-statuses (NothingShown end none) = within (3 ∷ 5 ∷ 8 ∷ 9 ∷ []) (0 ∷ 1 ∷ 3 ∷ 4 ∷ 5 ∷ 8 ∷ 9 ∷ 10 ∷ []) status refl (unshown-statuses names.shown before after status found end none)
  import-statuses (ImportOutOfMemory s) = one-of (0 ∷ 1 ∷ 3 ∷ 4 ∷ 5 ∷ 8 ∷ 9 ∷ 10 ∷ []) status 8 s.status_is refl
  import-statuses (NoOpenStep inputs rec fault s is ten none said same) = one-of (0 ∷ 1 ∷ 3 ∷ 4 ∷ 5 ∷ 8 ∷ 9 ∷ 10 ∷ []) status 10 ten refl
  import-statuses (NoLog inputs rec s is n none same) = within (3 ∷ 5 ∷ []) (0 ∷ 1 ∷ 3 ∷ 4 ∷ 5 ∷ 8 ∷ 9 ∷ 10 ∷ []) status refl (unloaded-statuses names.proof before after status n)
  import-statuses (NotSettled inputs rec log fault s is held err ten none said same) = one-of (0 ∷ 1 ∷ 3 ∷ 4 ∷ 5 ∷ 8 ∷ 9 ∷ 10 ∷ []) status 10 ten refl
  import-statuses (Settled inputs rec log new s is held ok own kept some d) = within (0 ∷ 1 ∷ 4 ∷ 8 ∷ []) (0 ∷ 1 ∷ 3 ∷ 4 ∷ 5 ∷ 8 ∷ 9 ∷ 10 ∷ []) status refl (delivered-statuses inputs new d)

  import-unrecorded : ImportEnds names before after status found → IsTrue (is_in (3 ∷ 5 ∷ 9 ∷ 10 ∷ []) status) → found ≡ None
  import-unrecorded (NothingShown end none) h = none
  import-unrecorded (ImportOutOfMemory s) h = s.found_is
  import-unrecorded (NoOpenStep inputs rec fault s is ten none said same) h = none
  import-unrecorded (NoLog inputs rec s is n none same) h = none
  import-unrecorded (NotSettled inputs rec log fault s is held err ten none said same) h = none
  import-unrecorded (Settled inputs rec log new s is held ok own kept some d) h = absurd (apart-lists (3 ∷ 5 ∷ 9 ∷ 10 ∷ []) (0 ∷ 1 ∷ 4 ∷ 8 ∷ []) status refl h (delivered-statuses inputs new d))

  import-backed : ImportEnds names before after status found → MatchOption found ⊤ IsSomeRecord
  import-backed (NothingShown end none) = absent found none
  import-backed (ImportOutOfMemory s) = absent found s.found_is
  import-backed (NoOpenStep inputs rec fault s is ten none said same) = absent found none
  import-backed (NoLog inputs rec s is n none same) = absent found none
  import-backed (NotSettled inputs rec log fault s is held err ten none said same) = absent found none
  import-backed (Settled inputs rec log new s is held ok own kept some d) = rw some (some-record new.order inputs new own.backed (λ done. own.packing))

  -- without a record nothing was stored
  import-kept : ImportEnds names before after status found → found ≡ None → after.files ≡ before.files
  import-kept (NothingShown end none) absent = let v = verify-promises names.shown before after status found end in v.untouched
  import-kept (ImportOutOfMemory s) absent = s.files
  import-kept (NoOpenStep inputs rec fault s is ten none said same) absent = same
  import-kept (NoLog inputs rec s is n none same) absent = same
  import-kept (NotSettled inputs rec log fault s is held err ten none said same) absent = same
  import-kept (Settled inputs rec log new s is held ok own kept some d) absent = cc (sym some ∙ absent)

  import-recorded : ImportEnds names before after status found → IsTrue (is_in (0 ∷ 1 ∷ 4 ∷ []) status) →
      (inputs : Inputs) × (rec : Record) × AreInputsOf names.shown.inputs before inputs × (found ≡ Some rec) × IsRecordIn rec.order inputs rec
  import-recorded (NothingShown end none) h = absurd (apart-lists (0 ∷ 1 ∷ 4 ∷ []) (3 ∷ 5 ∷ 8 ∷ 9 ∷ []) status refl h (unshown-statuses names.shown before after status found end none))
  import-recorded (ImportOutOfMemory s) h = absurd (off (0 ∷ 1 ∷ 4 ∷ []) status 8 h s.status_is refl)
  import-recorded (NoOpenStep inputs rec fault s is ten none said same) h = absurd (off (0 ∷ 1 ∷ 4 ∷ []) status 10 h ten refl)
  import-recorded (NoLog inputs rec s is n none same) h = absurd (apart-lists (0 ∷ 1 ∷ 4 ∷ []) (3 ∷ 5 ∷ []) status refl h (unloaded-statuses names.proof before after status n))
  import-recorded (NotSettled inputs rec log fault s is held err ten none said same) h = absurd (off (0 ∷ 1 ∷ 4 ∷ []) status 10 h ten refl)
  import-recorded (Settled inputs rec log new s is held ok own kept some d) h = (inputs, new, s.accepted, some, own)

  -- ---- a step that is decided

  abbrev sound-in : (files : List StoredFile) (inputs : Inputs) (rec : Record) → before.files ≡ Some files → IsShown names.shown before inputs rec → IsSoundTranscript files names.shown
  sound-in files inputs rec modelled s = record { inputs = inputs; text = s.text; given = shown-given files names.shown before inputs rec modelled s; rec = rec; shown = s.sound }

  log-in : (files : List StoredFile) (log : List ℕ) → before.files ≡ Some files → IsFileHeld names.proof before log → IsLogIn files names.proof log
  log-in files log modelled held = record { modelled = (held files modelled).0; within = (held files modelled).1 }

  abbrev settled-step : (files : List StoredFile) (inputs : Inputs) (rec new : Record) (log : List ℕ) → before.files ≡ Some files → IsShown names.shown before inputs rec → open_fault (step_numbered rec.steps names.step) ≡ None → IsFileHeld names.proof before log
      → settled_text inputs.book rec names.step log ≡ Ok new → IsRecordIn new.order inputs new → IsHeld new → found ≡ Some new → IsSettledStep files names found
  settled-step files inputs rec new log modelled s is held ok own kept some =
      let accepted = s.accepted files modelled in
      let x : (y : Step) × (step_numbered rec.steps names.step ≡ Some y) × (is_undecided y.shown ≡ true) = undecided-some (step_numbered rec.steps names.step) is in
      let c = changed inputs rec new names.step log x.0 (accepted-auction files names.shown.inputs inputs accepted s.named) s.own x.1 x.2 ok in
      record {
        sound = sound-in files inputs rec modelled s;
        step = x.0;
        there = x.1;
        open_before = x.2;
        log = log;
        held = log-in files log modelled held;
        new = new;
        settled = ok;
        recorded = some;
        auction = own;
        left = c.left;
        rows = c.rows;
        verifiable = record-verified files names.shown.inputs inputs new accepted s.named own.backed own.ending kept;
      }

  -- what a delivery left, however it ended
  abbrev Left : Inputs → Record → Type 0
  Left inputs new = Ended (import_texts names inputs new) (summary_in new.order inputs (undecided_of new.steps)) (done_status (undecided_of new.steps)) before after status

  import-done : (files : List StoredFile) → ImportEnds names before after status found → IsOnce names found → before.files ≡ Some files → IsTrue (is_in (0 ∷ 1 ∷ []) status) → IsImported files names before after status found
  import-done files (NothingShown end none) once modelled h = absurd (apart-lists (0 ∷ 1 ∷ []) (3 ∷ 5 ∷ 8 ∷ 9 ∷ []) status refl h (unshown-statuses names.shown before after status found end none))
  import-done files (ImportOutOfMemory s) once modelled h = absurd (off (0 ∷ 1 ∷ []) status 8 h s.status_is refl)
  import-done files (NoOpenStep inputs rec fault s is ten none said same) once modelled h = absurd (off (0 ∷ 1 ∷ []) status 10 h ten refl)
  import-done files (NoLog inputs rec s is n none same) once modelled h = absurd (apart-lists (0 ∷ 1 ∷ []) (3 ∷ 5 ∷ []) status refl h (unloaded-statuses names.proof before after status n))
  import-done files (NotSettled inputs rec log fault s is held err ten none said same) once modelled h = absurd (off (0 ∷ 1 ∷ []) status 10 h ten refl)
  import-done files (Settled inputs rec log new s is held ok own kept some d) once modelled h = go (ended inputs new d)
    where
      go : Left inputs new → IsImported files names before after status found
      go (Both done all writes) = record {
        one = settled-step files inputs rec new log modelled s is held ok own kept some;
        stored = all files modelled (apart inputs new some once);
        summary = writes;
        status_is = done;
      }
      go (NotSaid four all rises less said) = absurd (off (0 ∷ 1 ∷ []) status 4 h four refl)
      go (NotStored y among four part rises unsteady said) = absurd (off (0 ∷ 1 ∷ []) status 4 h four refl)
      go (OutOfRoom y eight part said) = absurd (off (0 ∷ 1 ∷ []) status 8 h eight refl)

  import-summed : ImportEnds names before after status found → IsTrue (is_in (0 ∷ 1 ∷ []) status) →
      (inputs : Inputs) × (rec : Record) × (found ≡ Some rec) × IsRecordIn rec.order inputs rec × (status ≡ done_status (undecided_of rec.steps))
      × Writes before.held after.held (summary_in rec.order inputs (undecided_of rec.steps)) (Ok tt)
  import-summed (NothingShown end none) h = absurd (apart-lists (0 ∷ 1 ∷ []) (3 ∷ 5 ∷ 8 ∷ 9 ∷ []) status refl h (unshown-statuses names.shown before after status found end none))
  import-summed (ImportOutOfMemory s) h = absurd (off (0 ∷ 1 ∷ []) status 8 h s.status_is refl)
  import-summed (NoOpenStep inputs rec fault s is ten none said same) h = absurd (off (0 ∷ 1 ∷ []) status 10 h ten refl)
  import-summed (NoLog inputs rec s is n none same) h = absurd (apart-lists (0 ∷ 1 ∷ []) (3 ∷ 5 ∷ []) status refl h (unloaded-statuses names.proof before after status n))
  import-summed (NotSettled inputs rec log fault s is held err ten none said same) h = absurd (off (0 ∷ 1 ∷ []) status 10 h ten refl)
  import-summed (Settled inputs rec log new s is held ok own kept some d) h = go (ended inputs new d)
    where
      go : Left inputs new → (inputs' : Inputs) × (rec' : Record) × (found ≡ Some rec') × IsRecordIn rec'.order inputs' rec' × (status ≡ done_status (undecided_of rec'.steps))
          × Writes before.held after.held (summary_in rec'.order inputs' (undecided_of rec'.steps)) (Ok tt)
      go (Both done all writes) = (inputs, new, some, own, done, writes)
      go (NotSaid four all rises less said) = absurd (off (0 ∷ 1 ∷ []) status 4 h four refl)
      go (NotStored y among four part rises unsteady said) = absurd (off (0 ∷ 1 ∷ []) status 4 h four refl)
      go (OutOfRoom y eight part said) = absurd (off (0 ∷ 1 ∷ []) status 8 h eight refl)

  -- ---- what was not stored or not written

  import-stored : (files : List StoredFile) → ImportEnds names before after status found → IsOnce names found → before.files ≡ Some files → status ≡ 4 → IsUnimported files names before after found ⊎ IsUnsummed files names before after found
  import-stored files (NothingShown end none) once modelled four = absurd (off (3 ∷ 5 ∷ 8 ∷ 9 ∷ []) status 4 (unshown-statuses names.shown before after status found end none) four refl)
  import-stored files (ImportOutOfMemory s) once modelled four = let eight = s.status_is in absurd (omega arith)
  import-stored files (NoOpenStep inputs rec fault s is ten none said same) once modelled four = absurd (omega arith)
  import-stored files (NoLog inputs rec s is n none same) once modelled four = absurd (off (3 ∷ 5 ∷ []) status 4 (unloaded-statuses names.proof before after status n) four refl)
  import-stored files (NotSettled inputs rec log fault s is held err ten none said same) once modelled four = absurd (omega arith)
  import-stored files (Settled inputs rec log new s is held ok own kept some d) once modelled four = go (ended inputs new d)
    where
      go : Left inputs new → IsUnimported files names before after found ⊎ IsUnsummed files names before after found
      go (Both done all writes) = absurd (never (undecided_of new.steps) status 4 done four refl)
      go (NotSaid is_four all rises less said) = inr (record {
        one = settled-step files inputs rec new log modelled s is held ok own kept some;
        stored = all files modelled (apart inputs new some once);
        failed = rises;
        unsure = less;
        summary = said;
      })
      go (NotStored y among is_four part rises unsteady said) =
          let p = part files modelled (apart inputs new some once) in
          inl (record {
            risen = rises;
            unsteady = unsteady;
            upto = record { one = settled-step files inputs rec new log modelled s is held ok own kept some; now = p.new; now_modelled = p.now_modelled; part = p.part };
            line = subst (λ (z : NamedText). IsLinePrinted before after (unwritten_line z.name)) (sym p.failed) said;
          })
      go (OutOfRoom y eight part said) = absurd (omega arith)

  import-part : (files : List StoredFile) → ImportEnds names before after status found → IsOnce names found → before.files ≡ Some files → status ≡ 8 → IsSome found → IsImportedUpTo files names after found
  import-part files (NothingShown end none) once modelled eight there = absurd (true≢false (sym there ∙ ap is_some none))
  import-part files (ImportOutOfMemory s) once modelled eight there = absurd (true≢false (sym there ∙ ap is_some s.found_is))
  import-part files (NoOpenStep inputs rec fault s is ten none said same) once modelled eight there = absurd (omega arith)
  import-part files (NoLog inputs rec s is n none same) once modelled eight there = absurd (true≢false (sym there ∙ ap is_some none))
  import-part files (NotSettled inputs rec log fault s is held err ten none said same) once modelled eight there = absurd (omega arith)
  import-part files (Settled inputs rec log new s is held ok own kept some d) once modelled eight there = go (ended inputs new d)
    where
      go : Left inputs new → IsImportedUpTo files names after found
      go (Both done all writes) = absurd (never (undecided_of new.steps) status 8 done eight refl)
      go (NotSaid four all rises less said) = absurd (omega arith)
      go (NotStored y among four part rises unsteady said) = absurd (omega arith)
      go (OutOfRoom y is_eight part said) =
          let p = part files modelled (apart inputs new some once) in
          record { one = settled-step files inputs rec new log modelled s is held ok own kept some; now = p.new; now_modelled = p.now_modelled; part = p.part }

  import-surely : (files : List StoredFile) → ImportEnds names before after status found → before.files ≡ Some files → before.steady ≡ true →
      ((inputs : Inputs) (order : Order) (undecided : List ClockTest) → inputs_of files names.shown.inputs ≡ Ok inputs → length (summary_in order inputs undecided) ≤ before.sure) → status ≢ 4
  import-surely files (NothingShown end none) modelled steady room = λ four. off (3 ∷ 5 ∷ 8 ∷ 9 ∷ []) status 4 (unshown-statuses names.shown before after status found end none) four refl
  import-surely files (ImportOutOfMemory s) modelled steady room = let eight = s.status_is in λ four. omega arith
  import-surely files (NoOpenStep inputs rec fault s is ten none said same) modelled steady room = λ four. omega arith
  import-surely files (NoLog inputs rec s is n none same) modelled steady room = λ four. off (3 ∷ 5 ∷ []) status 4 (unloaded-statuses names.proof before after status n) four refl
  import-surely files (NotSettled inputs rec log fault s is held err ten none said same) modelled steady room = λ four. omega arith
  import-surely files (Settled inputs rec log new s is held ok own kept some d) modelled steady room = λ four. go four (ended inputs new d)
    where
      go : status ≡ 4 → Left inputs new → ⊥
      go four (Both done all writes) = never (undecided_of new.steps) status 4 done four refl
      go four (NotSaid is_four all rises less said) = let enough = room inputs new.order (undecided_of new.steps) (s.accepted files modelled) in omega arith
      go four (NotStored y among is_four part rises unsteady said) = unsteady steady
      go four (OutOfRoom y eight part said) = omega arith

  import-paid : (files : List StoredFile) (inputs : Inputs) (rec : Record) (f : FrozenAt) → names.shown.inputs.owners ≡ None → inputs_of files names.shown.inputs ≡ Ok inputs →
      Contains (outcome rec.order inputs []).frozen f → IsThresholdPrice inputs.scenario inputs.book rec.order f.station f.price
  import-paid files inputs rec f valued is bought =
      threshold inputs.scenario inputs.book rec.order f (accepted-ascend files names.shown.inputs inputs is) (accepted-values files names.shown.inputs inputs valued is) bought

  -- ---- a step or a log that is rejected

  abbrev Cause : (files : List StoredFile) → IsSoundTranscript files names.shown → Type 0
  Cause files s =
      ((fault : StepFault) × (open_fault (step_numbered s.rec.steps names.step) ≡ Some fault) × IsLinePrinted before after (step_line names.step fault))
      ⊎ ((log : List ℕ) × (fault : SettleErr) × IsLogIn files names.proof log × (open_fault (step_numbered s.rec.steps names.step) ≡ None)
      × (settled_text s.inputs.book s.rec names.step log ≡ Err fault) × IsLinePrinted before after (unsettled_line names.proof fault))

  import-refused : (files : List StoredFile) → ImportEnds names before after status found → before.files ≡ Some files → status ≡ 10 → (s : IsSoundTranscript files names.shown) × Cause files s
  import-refused files (NothingShown end none) modelled ten = absurd (off (3 ∷ 5 ∷ 8 ∷ 9 ∷ []) status 10 (unshown-statuses names.shown before after status found end none) ten refl)
  import-refused files (ImportOutOfMemory s) modelled ten = let eight = s.status_is in absurd (omega arith)
  import-refused files (NoOpenStep inputs rec fault s is ten none said same) modelled t = (sound-in files inputs rec modelled s, inl (fault, is, said))
  import-refused files (NoLog inputs rec s is n none same) modelled ten = absurd (off (3 ∷ 5 ∷ []) status 10 (unloaded-statuses names.proof before after status n) ten refl)
  import-refused files (NotSettled inputs rec log fault s is held err ten none said same) modelled t = (sound-in files inputs rec modelled s, inr (log, fault, log-in files log modelled held, is, err, said))
  import-refused files (Settled inputs rec log new s is held ok own kept some d) modelled ten = absurd (off (0 ∷ 1 ∷ 4 ∷ 8 ∷ []) status 10 (delivered-statuses inputs new d) ten refl)

  -- the record that verifies is that of the sound transcript
  one-record : (files : List StoredFile) (inputs : Inputs) (rec : Record) (s : IsSoundTranscript files names.shown) → before.files ≡ Some files → IsShown names.shown before inputs rec → rec ≡ s.rec
  one-record files inputs rec s modelled own = shown-is files names.shown before inputs s.inputs s.text rec s.rec modelled own s.given s.shown

  one-inputs : (files : List StoredFile) (inputs : Inputs) (rec : Record) (s : IsSoundTranscript files names.shown) → before.files ≡ Some files → IsShown names.shown before inputs rec → inputs ≡ s.inputs
  one-inputs files inputs rec s modelled own = same-ok (inputs_of files names.shown.inputs) inputs s.inputs (own.accepted files modelled) s.given.accepted

  one-log : (files : List StoredFile) (log own : List ℕ) → before.files ≡ Some files → IsFileHeld names.proof before own → IsLogIn files names.proof log → own ≡ log
  one-log files log own modelled held l = same-text own log (sym (held files modelled).0 ∙ l.modelled)

  unloaded-or : (files : List StoredFile) (log : List ℕ) (wanted : ℕ) → before.files ≡ Some files → IsNotLoaded file_limit names.proof before after status → IsLogIn files names.proof log → IsStatusOr wanted before status
  unloaded-or files log wanted modelled (Unloaded three rises absent said) l = inr (inr (three, λ steady. no-text log (bytes_of files names.proof) (absent files modelled steady) l.modelled))
  unloaded-or files log wanted modelled (LongText five long said) l =
      let (bytes, is, more) = long files modelled in
      absurd (over file_limit (length log) (subst (λ z. file_limit < length z) (same-text bytes log (sym is ∙ l.modelled)) more) l.within)

  import-refuses_step : (files : List StoredFile) (s : IsSoundTranscript files names.shown) (fault : StepFault) → ImportEnds names before after status found → before.files ≡ Some files → open_fault (step_numbered s.rec.steps names.step) ≡ Some fault → IsStatusOr 10 before status
  import-refuses_step files s fault (NothingShown end none) modelled f = unshown-or names.shown before after status 10 found files s.inputs s.text s.rec end none modelled s.given s.shown
  import-refuses_step files s fault (ImportOutOfMemory e) modelled f = inr (inl e.status_is)
  import-refuses_step files s fault (NoOpenStep inputs rec own o is ten none said same) modelled f = inl ten
  import-refuses_step files s fault (NoLog inputs rec o is n none same) modelled f = two-faults (step_numbered s.rec.steps names.step) fault f (sym (same-fault names rec s.rec (one-record files inputs rec s modelled o)) ∙ is)
  import-refuses_step files s fault (NotSettled inputs rec log own o is held err ten none said same) modelled f = inl ten
  import-refuses_step files s fault (Settled inputs rec log new o is held ok own kept some d) modelled f = two-faults (step_numbered s.rec.steps names.step) fault f (sym (same-fault names rec s.rec (one-record files inputs rec s modelled o)) ∙ is)

  import-refuses_log : (files : List StoredFile) (s : IsSoundTranscript files names.shown) (log : List ℕ) (fault : SettleErr) → ImportEnds names before after status found → before.files ≡ Some files → open_fault (step_numbered s.rec.steps names.step) ≡ None → IsLogIn files names.proof log → settled_text s.inputs.book s.rec names.step log ≡ Err fault → IsStatusOr 10 before status
  import-refuses_log files s log fault (NothingShown end none) modelled f l err = unshown-or names.shown before after status 10 found files s.inputs s.text s.rec end none modelled s.given s.shown
  import-refuses_log files s log fault (ImportOutOfMemory e) modelled f l err = inr (inl e.status_is)
  import-refuses_log files s log fault (NoOpenStep inputs rec own o is ten none said same) modelled f l err = inl ten
  import-refuses_log files s log fault (NoLog inputs rec o is n none same) modelled f l err = unloaded-or files log 10 modelled n l
  import-refuses_log files s log fault (NotSettled inputs rec own why o is held e ten none said same) modelled f l err = inl ten
  import-refuses_log files s log fault (Settled inputs rec own new o is held ok of kept some d) modelled f l err =
      ok-not-err (settled_text s.inputs.book s.rec names.step log) new fault
      (sym (same-settled names inputs s.inputs rec s.rec own log (one-inputs files inputs rec s modelled o) (one-record files inputs rec s modelled o) (one-log files log own modelled held l)) ∙ ok) err

  import-complete : (files : List StoredFile) (s : IsSoundTranscript files names.shown) (log : List ℕ) (new : Record) → ImportEnds names before after status found → before.files ≡ Some files → open_fault (step_numbered s.rec.steps names.step) ≡ None → IsLogIn files names.proof log → settled_text s.inputs.book s.rec names.step log ≡ Ok new → IsStatusOr (done_status (undecided_of new.steps)) before status ⊎ (status ≡ 4)
  import-complete files s log new (NothingShown end none) modelled f l ok = inl (unshown-or names.shown before after status (done_status (undecided_of new.steps)) found files s.inputs s.text s.rec end none modelled s.given s.shown)
  import-complete files s log new (ImportOutOfMemory e) modelled f l ok = inl (inr (inl e.status_is))
  import-complete files s log new (NoOpenStep inputs rec own o is ten none said same) modelled f l ok = two-faults (step_numbered rec.steps names.step) own is (same-fault names rec s.rec (one-record files inputs rec s modelled o) ∙ f)
  import-complete files s log new (NoLog inputs rec o is n none same) modelled f l ok = inl (unloaded-or files log (done_status (undecided_of new.steps)) modelled n l)
  import-complete files s log new (NotSettled inputs rec own why o is held err ten none said same) modelled f l ok =
      ok-not-err (settled_text s.inputs.book s.rec names.step log) new why ok
      (sym (same-settled names inputs s.inputs rec s.rec own log (one-inputs files inputs rec s modelled o) (one-record files inputs rec s modelled o) (one-log files log own modelled held l)) ∙ err)
  import-complete files s log new (Settled inputs rec own other o is held fine of kept some d) modelled f l ok = go (ended inputs other d)
    where
      same : other ≡ new
      same = same-ok (settled_text s.inputs.book s.rec names.step log) other new
          (sym (same-settled names inputs s.inputs rec s.rec own log (one-inputs files inputs rec s modelled o) (one-record files inputs rec s modelled o) (one-log files log own modelled held l)) ∙ fine) ok

      go : Ended (import_texts names inputs other) (summary_in other.order inputs (undecided_of other.steps)) (done_status (undecided_of other.steps)) before after status → IsStatusOr (done_status (undecided_of new.steps)) before status ⊎ (status ≡ 4)
      go (Both done all writes) = inl (inl (done ∙ ap (λ (r : Record). done_status (undecided_of r.steps)) same))
      go (NotSaid four all rises less said) = inr four
      go (NotStored y among four part rises unsteady said) = inr four
      go (OutOfRoom y eight part said) = inl (inr (inl eight))

  -- ---- as `verify`

  import-as_verify : ImportEnds names before after status found → status ≡ 9 → VerifyPromises names.shown before after status found
  import-as_verify (NothingShown end none) nine = verify-promises names.shown before after status found end
  import-as_verify (ImportOutOfMemory s) nine = let eight = s.status_is in absurd (omega arith)
  import-as_verify (NoOpenStep inputs rec fault s is ten none said same) nine = absurd (omega arith)
  import-as_verify (NoLog inputs rec s is n none same) nine = absurd (off (3 ∷ 5 ∷ []) status 9 (unloaded-statuses names.proof before after status n) nine refl)
  import-as_verify (NotSettled inputs rec log fault s is held err ten none said same) nine = absurd (omega arith)
  import-as_verify (Settled inputs rec log new s is held ok own kept some d) nine = absurd (off (0 ∷ 1 ∷ 4 ∷ 8 ∷ []) status 9 (delivered-statuses inputs new d) nine refl)

  import-unloaded : ImportEnds names before after status found → IsTrue (is_in (3 ∷ 5 ∷ []) status) → VerifyPromises names.shown before after status found ⊎ IsUnlogged names before after status
  import-unloaded (NothingShown end none) h = inl (verify-promises names.shown before after status found end)
  import-unloaded (ImportOutOfMemory s) h = absurd (off (3 ∷ 5 ∷ []) status 8 h s.status_is refl)
  import-unloaded (NoOpenStep inputs rec fault s is ten none said same) h = absurd (off (3 ∷ 5 ∷ []) status 10 h ten refl)
  import-unloaded (NoLog inputs rec s is n none same) h = inr (record { inputs = inputs; rec = rec; shown = s; open_before = is; unloaded = n })
  import-unloaded (NotSettled inputs rec log fault s is held err ten none said same) h = absurd (off (3 ∷ 5 ∷ []) status 10 h ten refl)
  import-unloaded (Settled inputs rec log new s is held ok own kept some d) h = absurd (apart-lists (3 ∷ 5 ∷ []) (0 ∷ 1 ∷ 4 ∷ 8 ∷ []) status refl h (delivered-statuses inputs new d))

  import-refuses : (files : List StoredFile) (inputs : Inputs) (t : List ℕ) (fault : TranscriptFault) → ImportEnds names before after status found → before.files ≡ Some files → IsGiven files names.shown inputs t → verified inputs t ≡ Err fault → IsStatusOr 9 before status
  import-refuses files inputs t fault (NothingShown end none) modelled g err = let v = verify-promises names.shown before after status found end in v.checks.refuses files inputs t fault modelled g err
  import-refuses files inputs t fault (ImportOutOfMemory s) modelled g err = inr (inl s.status_is)
  import-refuses files inputs t fault (NoOpenStep own rec f s is ten none said same) modelled g err = shown-not-refused files names.shown before own inputs t rec fault modelled s g err
  import-refuses files inputs t fault (NoLog own rec s is n none same) modelled g err = shown-not-refused files names.shown before own inputs t rec fault modelled s g err
  import-refuses files inputs t fault (NotSettled own rec log why s is held e ten none said same) modelled g err = shown-not-refused files names.shown before own inputs t rec fault modelled s g err
  import-refuses files inputs t fault (Settled own rec log new s is held ok of kept some d) modelled g err = shown-not-refused files names.shown before own inputs t rec fault modelled s g err

  import-refuses_input : (files : List StoredFile) (why : Refusal) → ImportEnds names before after status found → before.files ≡ Some files → inputs_of files names.shown.inputs ≡ Err (Refused why) → IsStatusOr 5 before status
  import-refuses_input files why (NothingShown end none) modelled err = let v = verify-promises names.shown before after status found end in v.reads.refuses_input files why modelled err
  import-refuses_input files why (ImportOutOfMemory s) modelled err = inr (inl s.status_is)
  import-refuses_input files why (NoOpenStep own rec f s is ten none said same) modelled err = shown-not-halted files names.shown before own rec why modelled s err
  import-refuses_input files why (NoLog own rec s is n none same) modelled err = shown-not-halted files names.shown before own rec why modelled s err
  import-refuses_input files why (NotSettled own rec log f s is held e ten none said same) modelled err = shown-not-halted files names.shown before own rec why modelled s err
  import-refuses_input files why (Settled own rec log new s is held ok of kept some d) modelled err = shown-not-halted files names.shown before own rec why modelled s err

  import-refuses_long : (files : List StoredFile) (inputs : Inputs) (bytes : List ℕ) → ImportEnds names before after status found → before.files ≡ Some files → inputs_of files names.shown.inputs ≡ Ok inputs → bytes_of files names.shown.transcript ≡ Some bytes → transcript_limit < length bytes → IsStatusOr 5 before status
  import-refuses_long files inputs bytes (NothingShown end none) modelled ok is more = let v = verify-promises names.shown before after status found end in v.reads.refuses_long files inputs bytes modelled ok is more
  import-refuses_long files inputs bytes (ImportOutOfMemory s) modelled ok is more = inr (inl s.status_is)
  import-refuses_long files inputs bytes (NoOpenStep own rec f s at ten none said same) modelled ok is more = shown-not-long files names.shown before own rec bytes modelled s is more
  import-refuses_long files inputs bytes (NoLog own rec s at n none same) modelled ok is more = shown-not-long files names.shown before own rec bytes modelled s is more
  import-refuses_long files inputs bytes (NotSettled own rec log f s at held e ten none said same) modelled ok is more = shown-not-long files names.shown before own rec bytes modelled s is more
  import-refuses_long files inputs bytes (Settled own rec log new s at held fine of kept some d) modelled ok is more = shown-not-long files names.shown before own rec bytes modelled s is more

  -- a log that is held is not too long
  held-not-long : {X : Type 0} (files : List StoredFile) (own bytes : List ℕ) → before.files ≡ Some files → IsFileHeld names.proof before own → bytes_of files names.proof ≡ Some bytes → file_limit < length bytes → X
  held-not-long files own bytes modelled held is more =
      absurd (over file_limit (length own) (subst (λ z. file_limit < length z) (same-text bytes own (sym is ∙ (held files modelled).0)) more) (held files modelled).1)

  import-refuses_long_log : (files : List StoredFile) (s : IsSoundTranscript files names.shown) (bytes : List ℕ) → ImportEnds names before after status found → before.files ≡ Some files → open_fault (step_numbered s.rec.steps names.step) ≡ None → bytes_of files names.proof ≡ Some bytes → file_limit < length bytes → IsStatusOr 5 before status
  import-refuses_long_log files s bytes (NothingShown end none) modelled f is more = unshown-or names.shown before after status 5 found files s.inputs s.text s.rec end none modelled s.given s.shown
  import-refuses_long_log files s bytes (ImportOutOfMemory e) modelled f is more = inr (inl e.status_is)
  import-refuses_long_log files s bytes (NoOpenStep inputs rec own o at ten none said same) modelled f is more = two-faults (step_numbered rec.steps names.step) own at (same-fault names rec s.rec (one-record files inputs rec s modelled o) ∙ f)
  import-refuses_long_log files s bytes (NoLog inputs rec o at (Unloaded three rises absent said) none same) modelled f is more = inr (inr (three, λ steady. no-text bytes (bytes_of files names.proof) (absent files modelled steady) is))
  import-refuses_long_log files s bytes (NoLog inputs rec o at (LongText five long said) none same) modelled f is more = inl five
  import-refuses_long_log files s bytes (NotSettled inputs rec log own o at held e ten none said same) modelled f is more = held-not-long files log bytes modelled held is more
  import-refuses_long_log files s bytes (Settled inputs rec log new o at held ok own kept some d) modelled f is more = held-not-long files log bytes modelled held is more

  -- ---- the files

  abbrev Others : List StoredFile → List StoredFile → Type 0
  Others files now = AllOthersUnchanged files now (names.result ∷ names.transcript ∷ [])

  same-files : (files : List StoredFile) → before.files ≡ Some files → after.files ≡ before.files → MatchOption after.files ⊥ (Others files)
  same-files files modelled same = subst (λ o. MatchOption o ⊥ (Others files)) (sym (same ∙ modelled)) (λ other k. refl)

  import-others : (files : List StoredFile) → ImportEnds names before after status found → IsOnce names found → before.files ≡ Some files → MatchOption after.files ⊥ (Others files)
  import-others files (NothingShown end none) once modelled = let v = verify-promises names.shown before after status found end in same-files files modelled v.untouched
  import-others files (ImportOutOfMemory s) once modelled = same-files files modelled s.files
  import-others files (NoOpenStep inputs rec fault s is ten none said same) once modelled = same-files files modelled same
  import-others files (NoLog inputs rec s is n none same) once modelled = same-files files modelled same
  import-others files (NotSettled inputs rec log fault s is held err ten none said same) once modelled = same-files files modelled same
  import-others files (Settled inputs rec log new s is held ok own kept some d) once modelled = go (ended inputs new d)
    where
      go : Ended (import_texts names inputs new) (summary_in new.order inputs (undecided_of new.steps)) (done_status (undecided_of new.steps)) before after status → MatchOption after.files ⊥ (Others files)
      go (Both done all writes) = for-told after.files (λ now. AreStored files now (import_texts names inputs new)) (Others files) (λ now st. st.others) (all files modelled (apart inputs new some once))
      go (NotSaid four all rises less said) = for-told after.files (λ now. AreStored files now (import_texts names inputs new)) (Others files) (λ now st. st.others) (all files modelled (apart inputs new some once))
      go (NotStored y among four part rises unsteady said) =
          let p = part files modelled (apart inputs new some once) in
          subst (λ o. MatchOption o ⊥ (Others files)) (sym p.now_modelled) (λ other k. others-up-to files p.new (import_texts names inputs new) p.part other k)
      go (OutOfRoom y eight part said) =
          let p = part files modelled (apart inputs new some once) in
          subst (λ o. MatchOption o ⊥ (Others files)) (sym p.now_modelled) (λ other k. others-up-to files p.new (import_texts names inputs new) p.part other k)

  import-untouched : ImportEnds names before after status found → IsTrue (is_in (3 ∷ 5 ∷ 9 ∷ 10 ∷ []) status) → after.files ≡ before.files
  import-untouched end h = import-kept end (import-unrecorded end h)

  -- ---- the faults of the outside

  import-unread : ImportEnds names before after status found → status ≡ 3 → HasRisen before.faults after.faults
  import-unread (NothingShown end none) three = let v = verify-promises names.shown before after status found end in v.failures.unread three
  import-unread (ImportOutOfMemory s) three = let eight = s.status_is in absurd (omega arith)
  import-unread (NoOpenStep inputs rec fault s is ten none said same) three = absurd (omega arith)
  import-unread (NoLog inputs rec s is (Unloaded is_three rises absent said) none same) three = rises
  import-unread (NoLog inputs rec s is (LongText five long said) none same) three = absurd (omega arith)
  import-unread (NotSettled inputs rec log fault s is held err ten none said same) three = absurd (omega arith)
  import-unread (Settled inputs rec log new s is held ok own kept some d) three = absurd (off (0 ∷ 1 ∷ 4 ∷ 8 ∷ []) status 3 (delivered-statuses inputs new d) three refl)

  import-surely_read : (files : List StoredFile) → ImportEnds names before after status found → before.files ≡ Some files → before.steady ≡ true → AreAllFilesPresent files names.shown → IsSome (bytes_of files names.proof) → status ≢ 3
  import-surely_read files (NothingShown end none) modelled steady four there = let v = verify-promises names.shown before after status found end in v.reads.surely_read files modelled steady four
  import-surely_read files (ImportOutOfMemory s) modelled steady four there = let eight = s.status_is in λ three. omega arith
  import-surely_read files (NoOpenStep inputs rec fault s is ten none said same) modelled steady four there = λ three. omega arith
  import-surely_read files (NoLog inputs rec s is (Unloaded is_three rises absent said) none same) modelled steady four there = absurd (is-there (bytes_of files names.proof) there (absent files modelled steady))
  import-surely_read files (NoLog inputs rec s is (LongText five long said) none same) modelled steady four there = λ three. omega arith
  import-surely_read files (NotSettled inputs rec log fault s is held err ten none said same) modelled steady four there = λ three. omega arith
  import-surely_read files (Settled inputs rec log new s is held ok own kept some d) modelled steady four there = λ three. off (0 ∷ 1 ∷ 4 ∷ 8 ∷ []) status 3 (delivered-statuses inputs new d) three refl

  -- in a steady folder only memory can stop what should continue
  for-memory : before.steady ≡ true → IsStatusOr 8 before status → status ≡ 8
  for-memory steady (inl eight) = eight
  for-memory steady (inr (inl eight)) = eight
  for-memory steady (inr (inr (three, unsteady))) = absurd (unsteady steady)

  import-missing_log : (files : List StoredFile) (s : IsSoundTranscript files names.shown) → ImportEnds names before after status found → before.files ≡ Some files → before.steady ≡ true → open_fault (step_numbered s.rec.steps names.step) ≡ None → bytes_of files names.proof ≡ None →
      (status ≡ 8) ⊎ ((status ≡ 3) × IsLinePrinted before after (unread_line names.proof))
  import-missing_log files s (NothingShown end none) modelled steady f gone = inl (for-memory steady (unshown-or names.shown before after status 8 found files s.inputs s.text s.rec end none modelled s.given s.shown))
  import-missing_log files s (ImportOutOfMemory e) modelled steady f gone = inl e.status_is
  import-missing_log files s (NoOpenStep inputs rec own o at ten none said same) modelled steady f gone = two-faults (step_numbered rec.steps names.step) own at (same-fault names rec s.rec (one-record files inputs rec s modelled o) ∙ f)
  import-missing_log files s (NoLog inputs rec o at (Unloaded three rises absent said) none same) modelled steady f gone = inr (three, said)
  import-missing_log files s (NoLog inputs rec o at (LongText five long said) none same) modelled steady f gone =
      let (bytes, is, more) = long files modelled in absurd (no-text bytes (bytes_of files names.proof) gone is)
  import-missing_log files s (NotSettled inputs rec log own o at held e ten none said same) modelled steady f gone = absurd (no-text log (bytes_of files names.proof) gone (held files modelled).0)
  import-missing_log files s (Settled inputs rec log new o at held ok own kept some d) modelled steady f gone = absurd (no-text log (bytes_of files names.proof) gone (held files modelled).0)

  import-unwritten : ImportEnds names before after status found → status ≡ 4 → HasRisen before.faults after.faults ⊎ HasRisen before.sink_faults after.sink_faults
  import-unwritten (NothingShown end none) four = absurd (off (3 ∷ 5 ∷ 8 ∷ 9 ∷ []) status 4 (unshown-statuses names.shown before after status found end none) four refl)
  import-unwritten (ImportOutOfMemory s) four = let eight = s.status_is in absurd (omega arith)
  import-unwritten (NoOpenStep inputs rec fault s is ten none said same) four = absurd (omega arith)
  import-unwritten (NoLog inputs rec s is n none same) four = absurd (off (3 ∷ 5 ∷ []) status 4 (unloaded-statuses names.proof before after status n) four refl)
  import-unwritten (NotSettled inputs rec log fault s is held err ten none said same) four = absurd (omega arith)
  import-unwritten (Settled inputs rec log new s is held ok own kept some d) four = go (ended inputs new d)
    where
      go : Ended (import_texts names inputs new) (summary_in new.order inputs (undecided_of new.steps)) (done_status (undecided_of new.steps)) before after status → HasRisen before.faults after.faults ⊎ HasRisen before.sink_faults after.sink_faults
      go (Both done all writes) = absurd (never (undecided_of new.steps) status 4 done four refl)
      go (NotSaid is_four all rises less said) = inr rises
      go (NotStored y among is_four part rises unsteady said) = inl rises
      go (OutOfRoom y eight part said) = absurd (omega arith)

  import-memory : ImportEnds names before after status found → status ≡ 8 → IsLinePrinted before after memory_line
  import-memory (NothingShown end none) eight = verify-memory names.shown before after status found end eight
  import-memory (ImportOutOfMemory s) eight = s.line
  import-memory (NoOpenStep inputs rec fault s is ten none said same) eight = absurd (omega arith)
  import-memory (NoLog inputs rec s is n none same) eight = absurd (off (3 ∷ 5 ∷ []) status 8 (unloaded-statuses names.proof before after status n) eight refl)
  import-memory (NotSettled inputs rec log fault s is held err ten none said same) eight = absurd (omega arith)
  import-memory (Settled inputs rec log new s is held ok own kept some d) eight = go (ended inputs new d)
    where
      go : Ended (import_texts names inputs new) (summary_in new.order inputs (undecided_of new.steps)) (done_status (undecided_of new.steps)) before after status → IsLinePrinted before after memory_line
      go (Both done all writes) = absurd (never (undecided_of new.steps) status 8 done eight refl)
      go (NotSaid four all rises less said) = absurd (omega arith)
      go (NotStored y among four part rises unsteady said) = absurd (omega arith)
      go (OutOfRoom y is_eight part said) = said

  pub import-promises : ImportEnds names before after status found → IsOnce names found → (status ≡ 0 → names.shown.inputs.owners ≡ None) → ImportPromises names before after status found
  import-promises end once valued = record {
    statuses = import-statuses end;
    failures = record { unread = import-unread end; unwritten = import-unwritten end; memory = import-memory end };
    keeps = record { backed = import-backed end; unrecorded = import-unrecorded end; untouched = import-kept end };
    done = λ files modelled h. import-done files end once modelled h;
    recorded = import-recorded end;
    summed = import-summed end;
    paid = λ files inputs rec f modelled is some zero bought. import-paid files inputs rec f (valued zero) is bought;
    refused = λ files modelled ten. import-refused files end modelled ten;
    refuses_step = λ files s fault modelled f. import-refuses_step files s fault end modelled f;
    refuses_log = λ files s log fault modelled f l err. import-refuses_log files s log fault end modelled f l err;
    complete = λ files s log new modelled f l ok. import-complete files s log new end modelled f l ok;
    as_verify = import-as_verify end;
    unloaded = import-unloaded end;
    refuses = λ files inputs t fault modelled g err. import-refuses files inputs t fault end modelled g err;
    refuses_input = λ files why modelled err. import-refuses_input files why end modelled err;
    refuses_long = λ files inputs bytes modelled ok is more. import-refuses_long files inputs bytes end modelled ok is more;
    refuses_long_log = λ files s bytes modelled f is more. import-refuses_long_log files s bytes end modelled f is more;
    untouched = import-untouched end;
    others = λ files modelled. import-others files end once modelled;
    surely_read = λ files modelled steady four there. import-surely_read files end modelled steady four there;
    missing_log = λ files s modelled steady f gone. import-missing_log files s end modelled steady f gone;
    stored = λ files modelled four. import-stored files end once modelled four;
    part_stored = λ files modelled eight there. import-part files end once modelled eight there;
    surely_written = λ files modelled steady room. import-surely files end modelled steady room;
  }
