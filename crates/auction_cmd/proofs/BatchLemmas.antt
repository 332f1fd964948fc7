-- The promises of `batch` follow from how it ends.
use Rattle.std.proofs.Common.{◌≡◌, ◌≢◌, ◌==◌, ◌⊎◌, ◌≤◌, ◌∙◌, if◌then◌else◌, ℕ, Bool, true, false, inl, inr, List, [], ◌∷◌, length, map, refl, sym, ap, subst, arith, Some, All}
use Rattle.std.specs.Prelude.{Err, IsTrue, MatchOption, Ok, Result}
use Rattle.std.specs.List.{AllZip, list_any}
use Rattle.std.proofs.lemmas.List.Elements.{All-head, All-tail}
use Rattle.pack_defs.specs.Lists.{is_in}
use Rattle.pack_defs.specs.ClockRule.{ClockTest}
use Rattle.pack_defs.proofs.ThresholdLaw.{threshold}
use Rattle.outside_io.specs.Faults.{HasRisen}
use Rattle.outside_io.specs.Files.{StoredFile, bytes_of}
use Rattle.outside_io.specs.Loads.{Writes}
use Rattle.batch_list.specs.ListOf.{ListedNames}
use Rattle.auction_core.specs.declared.record.Ending.{Ending}
use Rattle.auction_core.specs.declared.record.Ending.TheVariants.{Done, StartRefuted, StartUndecided}
use Rattle.auction_core.specs.declared.record.Record.{Record}
use Rattle.auction_core.specs.Backed.{undecided_of}
use Rattle.commands.specs.declared.inputs.Inputs.{Inputs}
use Rattle.commands.specs.declared.inputs.input_file.Stop.TheVariants.{CannotRead, NoMemory, Refused}
use Rattle.command_words.specs.declared.run_words.Input.{Input}
use Rattle.commands.specs.Batch.{BatchStop, Unread, Twice, HeldBatch, batch_of, batch_status, batch_texts, ended_status, ended_text, ends_at_start, own_status, own_texts, status_lines, texts_under, with_text, names_in_words}
use Rattle.command_words.specs.Words.{inputs_with}
use Rattle.commands.specs.BatchEnds.{AreRecordsOf, BatchEnds, CountsStop, EachOf, ExplainsStop, IsBatchHeld, IsBatchStopped, IsUnderList, StopsAsHeld, StopsUnder}
use Rattle.commands.specs.BatchEnds.BatchEnds.{BatchStopped, BatchOutOfMemory, BatchRan}
use Rattle.auction_cmd.specs.BatchPromises.{BatchPromises, IsBatchCut, IsBatchPart, IsBatchRun, IsBatchUnstored, IsRefusing, IsRunOf, refused_line}
use Rattle.commands.specs.Delivery.{AllOthersUnchanged, AreStored, Delivers, IsPrinted, NamedText}
use Rattle.commands.specs.Delivery.IsPrinted.{Written, CutShort}
use Rattle.commands.specs.Inputs.{CountsFault, inputs_of}
use Rattle.commands.specs.Outside.{Outside, IsLinePrinted}
use Rattle.commands.specs.Records.{IsRecordBy, done_status, result_of, run_order}
use Rattle.command_words.specs.Words.{name_of}
use Rattle.commands.specs.Messages.{memory_line, unread_line, unwritten_line}
use Rattle.commands.specs.Ends.{IsStatusOr}
use Rattle.command_words.specs.Words.{BatchNames, InputNames}
use Rattle.auction_cmd.proofs.BatchReadings.{other-results, own-results, read-batch}
use Rattle.commands.proofs.DeliveryLemmas.{AreApart, Ended, IsPart, ended-of, for-told, others-up-to}
use Rattle.commands.proofs.DeliveryLemmas.Ended.{Both, NotSaid, NotStored, OutOfRoom}
use Rattle.commands.proofs.ReadingLemmas.{accepted-ascend, accepted-values}
use Rattle.commands.proofs.Statuses.{apart-lists, none-open, off, one-of, within}

-- ---- the status of a batch

status-by : (b c : Bool) → IsTrue (is_in (0 ∷ 1 ∷ 11 ∷ []) (if b then 11 else if c then 1 else 0))
status-by true c = refl
status-by false true = refl
status-by false false = refl

batch-within : (recs : List Record) → IsTrue (is_in (0 ∷ 1 ∷ 11 ∷ []) (batch_status recs))
batch-within recs = status-by (list_any (λ (rec : Record). ends_at_start rec.ending) recs) (list_any (λ (rec : Record). own_status rec == 1) recs)

either-status : (b c : Bool) (status : ℕ) → status ≡ (if b then 11 else if c then 1 else 0) → (status ≡ 0) ⊎ IsTrue (is_in (1 ∷ 4 ∷ 11 ∷ []) status)
either-status true c status is = inr (one-of (1 ∷ 4 ∷ 11 ∷ []) status 11 is refl)
either-status false true status is = inr (one-of (1 ∷ 4 ∷ 11 ∷ []) status 1 is refl)
either-status false false status is = inl is

-- ---- what each line gets

-- if an auction's own status is 0, it was completed and no test is undecided
all-decided : (ending : Ending) (U : List ClockTest) → ended_status ending (done_status U) ≡ 0 → (ending ≡ Done) × (U ≡ [])
all-decided Done U zero = (refl, none-open U zero)
all-decided StartRefuted U zero = absurd (omega arith)
all-decided StartUndecided U zero = absurd (omega arith)

module _ (files new : List StoredFile) (names : BatchNames) where
  abbrev Held : NamedText → Type 0
  Held x = bytes_of new x.name ≡ Some x.text

  -- the text of a line, if there is one, and those after it
  heads : (name : List ℕ) (text : List ℕ) (ending : Ending) (rest : List NamedText) → All Held (with_text name (ended_text ending text) rest) → (ending ≡ Done → bytes_of new name ≡ Some text) × All Held rest
  heads name text Done rest h = ((λ done. All-head Held (record { name = name; text = text }) rest h), All-tail Held (record { name = name; text = text }) rest h)
  heads name text StartRefuted rest h = ((λ done. cc), h)
  heads name text StartUndecided rest h = ((λ done. cc), h)

  run-of : (line : ListedNames) (i : Inputs) (rec : Record) → inputs_of files (inputs_with names line.scenario) ≡ Ok i → IsRecordBy i rec rec.ending →
      (rec.ending ≡ Done → bytes_of new line.result ≡ Some (result_of run_order i (undecided_of rec.steps))) → IsRunOf files new names line i rec
  run-of line i rec read auction held = record {
    accepted = read;
    auction = auction;
    stored = held;
    decided = λ zero. let all = all-decided rec.ending (undecided_of rec.steps) zero in subst (λ U. bytes_of new line.result ≡ Some (result_of run_order i U)) all.1 (held all.0);
    paid = λ zero f bought. threshold i.scenario i.book run_order f (accepted-ascend files (inputs_with names line.scenario) i read) (accepted-values files (inputs_with names line.scenario) i refl read) bought;
  }

  each-run : (lines : List ListedNames) (inputs : List Inputs) (recs : List Record) → EachOf (λ line i rec. IsRecordBy i rec rec.ending) lines inputs recs →
      AllZip (λ (line : ListedNames) i. inputs_of files (inputs_with names line.scenario) ≡ Ok i) lines inputs → All Held (texts_under lines (own_texts inputs recs)) →
      EachOf (IsRunOf files new names) lines inputs recs
  each-run [] [] [] of read held = tt
  each-run [] [] (rec ∷ recs) of read held = of
  each-run [] (i ∷ is) recs of read held = of
  each-run (line ∷ lines) [] recs of read held = of
  each-run (line ∷ lines) (i ∷ is) [] of read held = of
  each-run (line ∷ lines) (i ∷ is) (rec ∷ recs) of read held =
      let parts = heads line.result (result_of run_order i (undecided_of rec.steps)) rec.ending (texts_under lines (own_texts is recs)) held in
      (run-of line i rec read.0 of.0 parts.0, each-run lines is recs of.1 read.1 parts.1)

-- ---- what stopped the reading

stop-statuses : (stop : BatchStop) (before after : Outside) (status : ℕ) → ExplainsStop stop before.held after.held before.sink_faults after.sink_faults status → IsTrue (is_in (3 ∷ 5 ∷ 8 ∷ []) status)
stop-statuses (Unread own (CannotRead input)) before after status e = one-of (3 ∷ 5 ∷ 8 ∷ []) status 3 e.0 refl
stop-statuses (Unread own (Refused why)) before after status e = one-of (3 ∷ 5 ∷ 8 ∷ []) status 5 e.0 refl
stop-statuses (Unread own NoMemory) before after status e = one-of (3 ∷ 5 ∷ 8 ∷ []) status 8 e.0 refl
stop-statuses (Twice name) before after status e = one-of (3 ∷ 5 ∷ 8 ∷ []) status 5 e.0 refl

abbrev held-as : HeldBatch → Result HeldBatch BatchStop
held-as held = Ok held

abbrev stop-as : BatchStop → Result HeldBatch BatchStop
stop-as stop = Err stop

not-both : (held : HeldBatch) (stop : BatchStop) → held-as held ≡ stop-as stop → ⊥
not-both held stop e = cc

same-stop : (a b : BatchStop) → stop-as a ≡ stop-as b → a ≡ b
same-stop a b e = cc

same-held : (a b : HeldBatch) → held-as a ≡ held-as b → a ≡ b
same-held a b e = cc

module _ (names : BatchNames) (before after : Outside) (status : ℕ) (batch : List Record) where
  -- a batch that was carried out, and what its delivery left
  record IsReached : Type 0 where
    pub held : HeldBatch
    pub accepted : IsBatchHeld names before held
    pub auctions : AreRecordsOf held batch
    pub ended : Ended (batch_texts held batch) (status_lines held.lines batch) (batch_status batch) before after status

  abbrev run-of-reached : IsReached → IsBatchRun names before batch
  run-of-reached r = record { held = r.held; accepted = r.accepted; auctions = r.auctions }

  -- how far a batch came: its reading stopped, memory ran out before anything was stored, or all was carried out
  data Came : Type 0 where
    Stopped : IsBatchStopped names before after status → batch ≡ [] → Came
    EndedOutOfMemory : status ≡ 8 → IsLinePrinted before after memory_line → after.files ≡ before.files → batch ≡ [] → Came
    Reached : IsReached → Came

  came : BatchEnds names before after status batch → Came
  came (BatchStopped s none) = Stopped s none
  came (BatchOutOfMemory s none) = EndedOutOfMemory s.status_is s.line s.files none
  came (BatchRan held are of d) = Reached (record {
    held = held;
    accepted = are;
    auctions = of;
    ended = ended-of (batch_texts held batch) (status_lines held.lines batch) (batch_status batch) before after status d;
  })

  stopped-statuses : IsBatchStopped names before after status → IsTrue (is_in (3 ∷ 5 ∷ 8 ∷ []) status)
  stopped-statuses s = stop-statuses s.stop before after status s.explains

  ended-statuses : (xs : List NamedText) (printed : List ℕ) → Ended xs printed (batch_status batch) before after status → IsTrue (is_in (0 ∷ 1 ∷ 4 ∷ 8 ∷ 11 ∷ []) status)
  ended-statuses xs printed (Both is all writes) =
      subst (λ z. IsTrue (is_in (0 ∷ 1 ∷ 4 ∷ 8 ∷ 11 ∷ []) z)) (sym is) (within (0 ∷ 1 ∷ 11 ∷ []) (0 ∷ 1 ∷ 4 ∷ 8 ∷ 11 ∷ []) (batch_status batch) refl (batch-within batch))
  ended-statuses xs printed (NotSaid four all rises less said) = one-of (0 ∷ 1 ∷ 4 ∷ 8 ∷ 11 ∷ []) status 4 four refl
  ended-statuses xs printed (NotStored x among four part rises unsteady said) = one-of (0 ∷ 1 ∷ 4 ∷ 8 ∷ 11 ∷ []) status 4 four refl
  ended-statuses xs printed (OutOfRoom x eight part said) = one-of (0 ∷ 1 ∷ 4 ∷ 8 ∷ 11 ∷ []) status 8 eight refl

  reached-statuses : IsReached → IsTrue (is_in (0 ∷ 1 ∷ 4 ∷ 8 ∷ 11 ∷ []) status)
  reached-statuses r = ended-statuses (batch_texts r.held batch) (status_lines r.held.lines batch) r.ended

  batch-statuses : Came → IsTrue (is_in (0 ∷ 1 ∷ 3 ∷ 4 ∷ 5 ∷ 8 ∷ 11 ∷ []) status)
  batch-statuses (Stopped s none) = within (3 ∷ 5 ∷ 8 ∷ []) (0 ∷ 1 ∷ 3 ∷ 4 ∷ 5 ∷ 8 ∷ 11 ∷ []) status refl (stopped-statuses s)
  batch-statuses (EndedOutOfMemory eight said same none) = one-of (0 ∷ 1 ∷ 3 ∷ 4 ∷ 5 ∷ 8 ∷ 11 ∷ []) status 8 eight refl
  batch-statuses (Reached r) = within (0 ∷ 1 ∷ 4 ∷ 8 ∷ 11 ∷ []) (0 ∷ 1 ∷ 3 ∷ 4 ∷ 5 ∷ 8 ∷ 11 ∷ []) status refl (reached-statuses r)

  -- at these statuses the auctions were carried out
  reached-at : Came → IsTrue (is_in (0 ∷ 1 ∷ 4 ∷ 11 ∷ []) status) → IsReached
  reached-at (Stopped s none) h = absurd (apart-lists (0 ∷ 1 ∷ 4 ∷ 11 ∷ []) (3 ∷ 5 ∷ 8 ∷ []) status refl h (stopped-statuses s))
  reached-at (EndedOutOfMemory eight said same none) h = absurd (off (0 ∷ 1 ∷ 4 ∷ 11 ∷ []) status 8 h eight refl)
  reached-at (Reached r) h = r

  never : (n : ℕ) → status ≡ batch_status batch → status ≡ n → is_in (0 ∷ 1 ∷ 11 ∷ []) n ≡ false → ⊥
  never n is at out = off (0 ∷ 1 ∷ 11 ∷ []) status n (subst (λ z. IsTrue (is_in (0 ∷ 1 ∷ 11 ∷ []) z)) (sym is) (batch-within batch)) at out

  -- ---- what was stored and written

  batch-done : Came → IsTrue (is_in (0 ∷ 1 ∷ 11 ∷ []) status) →
      (run : IsBatchRun names before batch) × (status ≡ batch_status batch) × Writes before.held after.held (status_lines run.held.lines batch) (Ok tt)
  batch-done way h = go r.ended
    where
      r : IsReached
      r = reached-at way (within (0 ∷ 1 ∷ 11 ∷ []) (0 ∷ 1 ∷ 4 ∷ 11 ∷ []) status refl h)

      go : Ended (batch_texts r.held batch) (status_lines r.held.lines batch) (batch_status batch) before after status →
          (run : IsBatchRun names before batch) × (status ≡ batch_status batch) × Writes before.held after.held (status_lines run.held.lines batch) (Ok tt)
      go (Both is all writes) = (run-of-reached r, is, writes)
      go (NotSaid four all rises less said) = absurd (off (0 ∷ 1 ∷ 11 ∷ []) status 4 h four refl)
      go (NotStored x among four part rises unsteady said) = absurd (off (0 ∷ 1 ∷ 11 ∷ []) status 4 h four refl)
      go (OutOfRoom x eight part said) = absurd (off (0 ∷ 1 ∷ 11 ∷ []) status 8 h eight refl)

  -- in a modelled folder the texts have different names
  apart-texts : (r : IsReached) (files : List StoredFile) → before.files ≡ Some files → AreApart (batch_texts r.held batch)
  apart-texts r files modelled =
      let read = read-batch files names r.held (r.accepted files modelled) in
      own-results (names_in_words names) r.held.lines (own_texts r.held.inputs batch) read.once

  batch-each : (files : List StoredFile) → Came → before.files ≡ Some files → IsTrue (is_in (0 ∷ 1 ∷ 11 ∷ []) status) →
      (run : IsBatchRun names before batch)
      × MatchOption after.files ⊥ (λ new. AreStored files new (batch_texts run.held batch) × EachOf (IsRunOf files new names) run.held.lines run.held.inputs batch)
  batch-each files way modelled h = go r.ended
    where
      r : IsReached
      r = reached-at way (within (0 ∷ 1 ∷ 11 ∷ []) (0 ∷ 1 ∷ 4 ∷ 11 ∷ []) status refl h)

      each : (new : List StoredFile) → AreStored files new (batch_texts r.held batch) → AreStored files new (batch_texts r.held batch) × EachOf (IsRunOf files new names) r.held.lines r.held.inputs batch
      each new st =
          let read = read-batch files names r.held (r.accepted files modelled) in
          (st, each-run files new names r.held.lines r.held.inputs batch r.auctions read.own st.hold)

      go : Ended (batch_texts r.held batch) (status_lines r.held.lines batch) (batch_status batch) before after status →
          (run : IsBatchRun names before batch)
          × MatchOption after.files ⊥ (λ new. AreStored files new (batch_texts run.held batch) × EachOf (IsRunOf files new names) run.held.lines run.held.inputs batch)
      go (Both is all writes) = (run-of-reached r, for-told after.files (λ new. AreStored files new (batch_texts r.held batch)) (λ new. AreStored files new (batch_texts r.held batch) × EachOf (IsRunOf files new names) r.held.lines r.held.inputs batch) each (all files modelled (apart-texts r files modelled)))
      go (NotSaid four all rises less said) = absurd (off (0 ∷ 1 ∷ 11 ∷ []) status 4 h four refl)
      go (NotStored x among four part rises unsteady said) = absurd (off (0 ∷ 1 ∷ 11 ∷ []) status 4 h four refl)
      go (OutOfRoom x eight part said) = absurd (off (0 ∷ 1 ∷ 11 ∷ []) status 8 h eight refl)

  abbrev part-of : (files : List StoredFile) (r : IsReached) (x : NamedText) → IsPart files (batch_texts r.held batch) x after → IsBatchPart files names before after batch
  part-of files r x p = record { run = run-of-reached r; new = p.new; now_modelled = p.now_modelled; part = p.part }

  batch-unstored : (files : List StoredFile) → Came → before.files ≡ Some files → status ≡ 4 → IsBatchUnstored files names before after batch ⊎ IsBatchCut files names before after batch
  batch-unstored files way modelled four = go r.ended
    where
      r : IsReached
      r = reached-at way (one-of (0 ∷ 1 ∷ 4 ∷ 11 ∷ []) status 4 four refl)

      go : Ended (batch_texts r.held batch) (status_lines r.held.lines batch) (batch_status batch) before after status → IsBatchUnstored files names before after batch ⊎ IsBatchCut files names before after batch
      go (Both is all writes) = absurd (never 4 is four refl)
      go (NotSaid at all rises less said) = inr (record { run = run-of-reached r; stored = all files modelled (apart-texts r files modelled); failed = rises; unsure = less; lines = said })
      go (NotStored x among at part rises unsteady said) =
          let p : IsPart files (batch_texts r.held batch) x after = part files modelled (apart-texts r files modelled) in
          inl (record {
            risen = rises;
            unsteady = unsteady;
            upto = part-of files r x p;
            line = subst (λ (z : NamedText). IsLinePrinted before after (unwritten_line z.name)) (sym p.failed) said;
          })
      go (OutOfRoom x eight part said) = absurd (omega arith)

  batch-unwritten : Came → status ≡ 4 → HasRisen before.faults after.faults ⊎ HasRisen before.sink_faults after.sink_faults
  batch-unwritten way four = go r.ended
    where
      r : IsReached
      r = reached-at way (one-of (0 ∷ 1 ∷ 4 ∷ 11 ∷ []) status 4 four refl)

      go : Ended (batch_texts r.held batch) (status_lines r.held.lines batch) (batch_status batch) before after status → HasRisen before.faults after.faults ⊎ HasRisen before.sink_faults after.sink_faults
      go (Both is all writes) = absurd (never 4 is four refl)
      go (NotSaid at all rises less said) = inr rises
      go (NotStored x among at part rises unsteady said) = inl rises
      go (OutOfRoom x eight part said) = absurd (omega arith)

  batch-surely : Came → before.steady ≡ true → ((run : IsBatchRun names before batch) → length (status_lines run.held.lines batch) ≤ before.sure) → status ≢ 4
  batch-surely way steady room four = go r.ended
    where
      r : IsReached
      r = reached-at way (one-of (0 ∷ 1 ∷ 4 ∷ 11 ∷ []) status 4 four refl)

      go : Ended (batch_texts r.held batch) (status_lines r.held.lines batch) (batch_status batch) before after status → ⊥
      go (Both is all writes) = never 4 is four refl
      go (NotSaid at all rises less said) = let fits = room (run-of-reached r) in omega (arith, fits, less)
      go (NotStored x among at part rises unsteady said) = unsteady steady
      go (OutOfRoom x eight part said) = omega arith

  batch-starved : Came → status ≡ 8 → ((batch ≡ []) × (after.files ≡ before.files)) ⊎ IsBatchRun names before batch
  batch-starved (Stopped s none) eight = inl (none, s.files)
  batch-starved (EndedOutOfMemory at said same none) eight = inl (none, same)
  batch-starved (Reached r) eight = inr (run-of-reached r)

  batch-part : (files : List StoredFile) → Came → before.files ≡ Some files → status ≡ 8 → batch ≢ [] → IsBatchPart files names before after batch
  batch-part files (Stopped s none) modelled eight some = absurd (some none)
  batch-part files (EndedOutOfMemory at said same none) modelled eight some = absurd (some none)
  batch-part files (Reached r) modelled eight some = go r.ended
    where
      go : Ended (batch_texts r.held batch) (status_lines r.held.lines batch) (batch_status batch) before after status → IsBatchPart files names before after batch
      go (Both is all writes) = absurd (never 8 is eight refl)
      go (NotSaid four all rises less said) = absurd (omega arith)
      go (NotStored x among four part rises unsteady said) = absurd (omega arith)
      go (OutOfRoom x at part said) = part-of files r x (part files modelled (apart-texts r files modelled))

  batch-unrecorded : Came → IsTrue (is_in (3 ∷ 5 ∷ []) status) → batch ≡ []
  batch-unrecorded (Stopped s none) h = none
  batch-unrecorded (EndedOutOfMemory at said same none) h = none
  batch-unrecorded (Reached r) h = absurd (apart-lists (3 ∷ 5 ∷ []) (0 ∷ 1 ∷ 4 ∷ 8 ∷ 11 ∷ []) status refl h (reached-statuses r))

  batch-memory : Came → status ≡ 8 → IsLinePrinted before after memory_line
  batch-memory (Stopped s none) eight = by s.stop s.explains
    where
      by : (stop : BatchStop) → ExplainsStop stop before.held after.held before.sink_faults after.sink_faults status → IsLinePrinted before after memory_line
      by (Unread own (CannotRead input)) e = let three = e.0 in absurd (omega arith)
      by (Unread own (Refused why)) e = let five = e.0 in absurd (omega arith)
      by (Unread own NoMemory) e = e.1
      by (Twice name) e = let five = e.0 in absurd (omega arith)
  batch-memory (EndedOutOfMemory at said same none) eight = said
  batch-memory (Reached r) eight = go r.ended
    where
      go : Ended (batch_texts r.held batch) (status_lines r.held.lines batch) (batch_status batch) before after status → IsLinePrinted before after memory_line
      go (Both is all writes) = absurd (never 8 is eight refl)
      go (NotSaid four all rises less said) = absurd (omega arith)
      go (NotStored x among four part rises unsteady said) = absurd (omega arith)
      go (OutOfRoom x at part said) = said

  -- ---- what stopped the reading

  batch-refused : (files : List StoredFile) → Came → before.files ≡ Some files → status ≡ 5 →
      (stop : BatchStop) × IsRefusing stop × (batch_of files names ≡ Err stop) × IsLinePrinted before after (refused_line stop)
  batch-refused files (Stopped s none) modelled five = by s.stop (s.modelled files modelled) s.explains
    where
      by : (stop : BatchStop) → StopsAsHeld before.steady (batch_of files names) stop → ExplainsStop stop before.held after.held before.sink_faults after.sink_faults status →
          (stop : BatchStop) × IsRefusing stop × (batch_of files names ≡ Err stop) × IsLinePrinted before after (refused_line stop)
      by (Unread own (CannotRead input)) h e = let three = e.0 in absurd (omega arith)
      by (Unread own (Refused why)) h e = (Unread own (Refused why), tt, h, e.1)
      by (Unread own NoMemory) h e = let eight = e.0 in absurd (omega arith)
      by (Twice name) h e = (Twice name, tt, h, e.1)
  batch-refused files (EndedOutOfMemory eight said same none) modelled five = absurd (omega arith)
  batch-refused files (Reached r) modelled five = absurd (off (0 ∷ 1 ∷ 4 ∷ 8 ∷ 11 ∷ []) status 5 (reached-statuses r) five refl)

  batch-refuses : (files : List StoredFile) (stop : BatchStop) → Came → before.files ≡ Some files → batch_of files names ≡ Err stop → IsRefusing stop → IsStatusOr 5 before status
  batch-refuses files stop (Stopped s none) modelled is refusing = by s.stop (s.modelled files modelled) s.explains
    where
      other : (own : InputNames) (input : Input) → stop ≡ Unread own (CannotRead input) → ⊥
      other own input same = subst IsRefusing same refusing

      by : (own : BatchStop) → StopsAsHeld before.steady (batch_of files names) own → ExplainsStop own before.held after.held before.sink_faults after.sink_faults status → IsStatusOr 5 before status
      by (Unread own (CannotRead input)) h e = inr (inr (e.0, λ steady. other own input (same-stop stop (Unread own (CannotRead input)) (sym is ∙ h steady))))
      by (Unread own (Refused why)) h e = inl e.0
      by (Unread own NoMemory) h e = inr (inl e.0)
      by (Twice name) h e = inl e.0
  batch-refuses files stop (EndedOutOfMemory eight said same none) modelled is refusing = inr (inl eight)
  batch-refuses files stop (Reached r) modelled is refusing = absurd (not-both r.held stop (sym (r.accepted files modelled) ∙ is))

  batch-unread : Came → status ≡ 3 → HasRisen before.faults after.faults
      × ((own : InputNames) × (input : Input) × IsUnderList names before own × IsLinePrinted before after (unread_line (name_of own input)))
  batch-unread (Stopped s none) three = by s.stop s.under s.counted s.explains
    where
      risen : (input : Input) → CountsFault {A = Inputs} before.faults after.faults (Err (CannotRead input)) → HasRisen before.faults after.faults
      risen input c = c.rises

      by : (stop : BatchStop) → StopsUnder (IsUnderList names before) stop → CountsStop before.faults after.faults stop → ExplainsStop stop before.held after.held before.sink_faults after.sink_faults status →
          HasRisen before.faults after.faults × ((own : InputNames) × (input : Input) × IsUnderList names before own × IsLinePrinted before after (unread_line (name_of own input)))
      by (Unread own (CannotRead input)) under c e = (risen input c, (own, input, under, e.1))
      by (Unread own (Refused why)) under c e = let five = e.0 in absurd (omega arith)
      by (Unread own NoMemory) under c e = let eight = e.0 in absurd (omega arith)
      by (Twice name) under c e = let five = e.0 in absurd (omega arith)
  batch-unread (EndedOutOfMemory eight said same none) three = absurd (omega arith)
  batch-unread (Reached r) three = absurd (off (0 ∷ 1 ∷ 4 ∷ 8 ∷ 11 ∷ []) status 3 (reached-statuses r) three refl)

  batch-missing : (files : List StoredFile) (own : InputNames) (input : Input) → Came → before.files ≡ Some files → before.steady ≡ true → batch_of files names ≡ Err (Unread own (CannotRead input)) →
      (status ≡ 8) ⊎ ((status ≡ 3) × IsLinePrinted before after (unread_line (name_of own input)))
  batch-missing files own input (Stopped s none) modelled steady is = by s.stop (s.modelled files modelled) s.explains
    where
      same-line : (at : InputNames) (i : Input) → Unread at (CannotRead i) ≡ Unread own (CannotRead input) → name_of at i ≡ name_of own input
      same-line at i e =
          let names_are : at ≡ own = cc in
          let input_is : i ≡ input = cc in
          λ j. name_of (names_are j) (input_is j)

      other : (at : InputNames) (why : _) → Unread at (Refused why) ≡ Unread own (CannotRead input) → ⊥
      other at why e = cc

      another : (name : List ℕ) → Twice name ≡ Unread own (CannotRead input) → ⊥
      another name e = cc

      by : (stop : BatchStop) → StopsAsHeld before.steady (batch_of files names) stop → ExplainsStop stop before.held after.held before.sink_faults after.sink_faults status →
          (status ≡ 8) ⊎ ((status ≡ 3) × IsLinePrinted before after (unread_line (name_of own input)))
      by (Unread at (CannotRead i)) h e = inr (e.0, subst (λ z. IsLinePrinted before after (unread_line z)) (same-line at i (same-stop (Unread at (CannotRead i)) (Unread own (CannotRead input)) (sym (h steady) ∙ is))) e.1)
      by (Unread at (Refused why)) h e = absurd (other at why (same-stop (Unread at (Refused why)) (Unread own (CannotRead input)) (sym h ∙ is)))
      by (Unread at NoMemory) h e = inl e.0
      by (Twice name) h e = absurd (another name (same-stop (Twice name) (Unread own (CannotRead input)) (sym h ∙ is)))
  batch-missing files own input (EndedOutOfMemory eight said same none) modelled steady is = inl eight
  batch-missing files own input (Reached r) modelled steady is = absurd (not-both r.held (Unread own (CannotRead input)) (sym (r.accepted files modelled) ∙ is))

  -- if the files hold a batch, a reading stops only because memory ran out or by a fault of the folder
  stopped-held : (files : List StoredFile) (held : HeldBatch) (n : ℕ) → IsBatchStopped names before after status → before.files ≡ Some files → batch_of files names ≡ Ok held → IsStatusOr n before status
  stopped-held files held n s modelled is = by s.stop (s.modelled files modelled) s.explains
    where
      by : (stop : BatchStop) → StopsAsHeld before.steady (batch_of files names) stop → ExplainsStop stop before.held after.held before.sink_faults after.sink_faults status → IsStatusOr n before status
      by (Unread at (CannotRead i)) h e = inr (inr (e.0, λ steady. not-both held (Unread at (CannotRead i)) (sym is ∙ h steady)))
      by (Unread at (Refused why)) h e = absurd (not-both held (Unread at (Refused why)) (sym is ∙ h))
      by (Unread at NoMemory) h e = inr (inl e.0)
      by (Twice name) h e = absurd (not-both held (Twice name) (sym is ∙ h))

  batch-read : (files : List StoredFile) → Came → before.files ≡ Some files → before.steady ≡ true → ((own : InputNames) (input : Input) → batch_of files names ≢ Err (Unread own (CannotRead input))) → status ≢ 3
  batch-read files (Stopped s none) modelled steady there = λ three. by s.stop (s.modelled files modelled) s.explains three
    where
      by : (stop : BatchStop) → StopsAsHeld before.steady (batch_of files names) stop → ExplainsStop stop before.held after.held before.sink_faults after.sink_faults status → status ≡ 3 → ⊥
      by (Unread at (CannotRead i)) h e three = there at i (h steady)
      by (Unread at (Refused why)) h e three = let five = e.0 in omega arith
      by (Unread at NoMemory) h e three = let eight = e.0 in omega arith
      by (Twice name) h e three = let five = e.0 in omega arith
  batch-read files (EndedOutOfMemory eight said same none) modelled steady there = λ three. omega (arith, eight, three)
  batch-read files (Reached r) modelled steady there = λ three. off (0 ∷ 1 ∷ 4 ∷ 8 ∷ 11 ∷ []) status 3 (reached-statuses r) three refl

  batch-complete : (files : List StoredFile) (held : HeldBatch) → Came → before.files ≡ Some files → batch_of files names ≡ Ok held → IsStatusOr 0 before status ⊎ IsTrue (is_in (1 ∷ 4 ∷ 11 ∷ []) status)
  batch-complete files held (Stopped s none) modelled is = inl (stopped-held files held 0 s modelled is)
  batch-complete files held (EndedOutOfMemory eight said same none) modelled is = inl (inr (inl eight))
  batch-complete files held (Reached r) modelled is = go r.ended
    where
      go : Ended (batch_texts r.held batch) (status_lines r.held.lines batch) (batch_status batch) before after status → IsStatusOr 0 before status ⊎ IsTrue (is_in (1 ∷ 4 ∷ 11 ∷ []) status)
      go (Both done all writes) = elim (either-status (list_any (λ (rec : Record). ends_at_start rec.ending) batch) (list_any (λ (rec : Record). own_status rec == 1) batch) status done) [
        | inl zero ↦ inl (inl zero)
        | inr other ↦ inr other
      ]
      go (NotSaid four all rises less said) = inr (one-of (1 ∷ 4 ∷ 11 ∷ []) status 4 four refl)
      go (NotStored x among four part rises unsteady said) = inr (one-of (1 ∷ 4 ∷ 11 ∷ []) status 4 four refl)
      go (OutOfRoom x eight part said) = inl (inr (inl eight))

  -- ---- the other files

  stand : (files : List StoredFile) (xs : List (List ℕ)) → before.files ≡ Some files → after.files ≡ before.files → MatchOption after.files ⊥ (λ new. AllOthersUnchanged files new xs)
  stand files xs modelled same = subst (λ o. MatchOption o ⊥ (λ new. AllOthersUnchanged files new xs)) (sym (same ∙ modelled)) (λ other k. refl)

  batch-others : (files : List StoredFile) (held : HeldBatch) → Came → before.files ≡ Some files → batch_of files names ≡ Ok held →
      MatchOption after.files ⊥ (λ new. AllOthersUnchanged files new (map (λ (line : ListedNames). line.result) held.lines))
  batch-others files held (Stopped s none) modelled is = stand files (map (λ (line : ListedNames). line.result) held.lines) modelled s.files
  batch-others files held (EndedOutOfMemory eight said same none) modelled is = stand files (map (λ (line : ListedNames). line.result) held.lines) modelled same
  batch-others files held (Reached r) modelled is = subst (λ (h : HeldBatch). MatchOption after.files ⊥ (λ new. AllOthersUnchanged files new (map (λ (line : ListedNames). line.result) h.lines))) own (go r.ended)
    where
      own : r.held ≡ held
      own = same-held r.held held (sym (r.accepted files modelled) ∙ is)

      texts : List NamedText
      texts = batch_texts r.held batch

      whole : (new : List StoredFile) → AreStored files new (batch_texts r.held batch) → AllOthersUnchanged files new (map (λ (line : ListedNames). line.result) r.held.lines)
      whole new st = λ other k. st.others other (other-results r.held.lines (own_texts r.held.inputs batch) other k)

      some : (x : NamedText) → IsPart files (batch_texts r.held batch) x after → MatchOption after.files ⊥ (λ new. AllOthersUnchanged files new (map (λ (line : ListedNames). line.result) r.held.lines))
      some x p = subst (λ o. MatchOption o ⊥ (λ new. AllOthersUnchanged files new (map (λ (line : ListedNames). line.result) r.held.lines))) (sym p.now_modelled)
          (λ other k. others-up-to files p.new (batch_texts r.held batch) p.part other (other-results r.held.lines (own_texts r.held.inputs batch) other k))

      go : Ended (batch_texts r.held batch) (status_lines r.held.lines batch) (batch_status batch) before after status → MatchOption after.files ⊥ (λ new. AllOthersUnchanged files new (map (λ (line : ListedNames). line.result) r.held.lines))
      go (Both done all writes) = for-told after.files (λ new. AreStored files new (batch_texts r.held batch)) (λ new. AllOthersUnchanged files new (map (λ (line : ListedNames). line.result) r.held.lines)) whole (all files modelled (apart-texts r files modelled))
      go (NotSaid four all rises less said) = for-told after.files (λ new. AreStored files new (batch_texts r.held batch)) (λ new. AllOthersUnchanged files new (map (λ (line : ListedNames). line.result) r.held.lines)) whole (all files modelled (apart-texts r files modelled))
      go (NotStored x among four part rises unsteady said) = some x (part files modelled (apart-texts r files modelled))
      go (OutOfRoom x eight part said) = some x (part files modelled (apart-texts r files modelled))

  -- without records there are no texts
  no-texts : (lines : List ListedNames) (inputs : List Inputs) → texts_under lines (own_texts inputs []) ≡ []
  no-texts [] inputs = refl
  no-texts (line ∷ lines) [] = refl
  no-texts (line ∷ lines) (i ∷ is) = refl

  printed-alone : (printed : List ℕ) (done : ℕ) → IsPrinted printed done before after status → after.files ≡ before.files
  printed-alone printed done (Written is same writes) = same
  printed-alone printed done (CutShort four same rises less said) = same

  batch-untouched : BatchEnds names before after status batch → batch ≡ [] → after.files ≡ before.files
  batch-untouched (BatchStopped s none) empty = s.files
  batch-untouched (BatchOutOfMemory s none) empty = s.files
  batch-untouched (BatchRan held are of d) empty =
      let none : batch_texts held batch ≡ [] = ap (batch_texts held) empty ∙ no-texts held.lines held.inputs in
      printed-alone (status_lines held.lines batch) (batch_status batch) (subst (λ xs. Delivers xs (status_lines held.lines batch) (batch_status batch) before after status) none d)

  pub batch-promises : BatchEnds names before after status batch → BatchPromises names before after status batch
  batch-promises end = let way = came end in record {
    statuses = batch-statuses way;
    done = batch-done way;
    each = λ files modelled h. batch-each files way modelled h;
    recorded = λ four. run-of-reached (reached-at way (one-of (0 ∷ 1 ∷ 4 ∷ 11 ∷ []) status 4 four refl));
    unrecorded = batch-unrecorded way;
    out_of_memory = batch-starved way;
    part_stored = λ files modelled eight some. batch-part files way modelled eight some;
    refused = λ files modelled five. batch-refused files way modelled five;
    refuses = λ files stop modelled is refusing. batch-refuses files stop way modelled is refusing;
    unread = batch-unread way;
    missing = λ files own input modelled steady is. batch-missing files own input way modelled steady is;
    surely_read = λ files modelled steady there. batch-read files way modelled steady there;
    unwritten = batch-unwritten way;
    unstored = λ files modelled four. batch-unstored files way modelled four;
    surely_written = batch-surely way;
    complete = λ files held modelled is. batch-complete files held way modelled is;
    others = λ files held modelled is. batch-others files held way modelled is;
    untouched = batch-untouched end;
    memory = batch-memory way;
  }
