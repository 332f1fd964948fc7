-- The promises of `run` for a finished auction.
use Rattle.std.proofs.Common.{◌≡◌, ◌≢◌, ◌⊎◌, ◌≤◌, ◌∙◌, ℕ, true, false, inl, inr, List, [], ◌∷◌, length, refl, sym, ap, subst, arith, Option, Some, None}
use Rattle.std.specs.Prelude.{Result, Ok, IsSome, IsTrue, MatchOption, is_some, ⊤}
use Rattle.std.proofs.lemmas.Bool.{true≢false}
use Rattle.pack_defs.specs.Lists.{is_in}
use Rattle.pack_defs.specs.declared.order.Order.{Order}
use Rattle.pack_defs.specs.ClockRule.{ClockTest, on_air_set}
use Rattle.pack_defs.specs.Packing.{IsPacking}
use Rattle.pack_defs.proofs.ThresholdLaw.{threshold}
use Rattle.outside_io.specs.Faults.{HasRisen}
use Rattle.outside_io.specs.Files.{StoredFile, bytes_of}
use Rattle.outside_io.specs.Loads.{Writes}
use Rattle.auction_core.specs.declared.record.Ending.TheVariants.{Done}
use Rattle.auction_core.specs.declared.record.Record.{Record}
use Rattle.auction_core.specs.Backed.{IsBacked, undecided_of}
use Rattle.result_text.specs.ChannelsText.{channels_text}
use Rattle.transcript_text.specs.RoundTrip.{IsHeld}
use Rattle.transcript_text.specs.Spelling.{transcript_text}
use Rattle.commands.specs.declared.inputs.Inputs.{Inputs}
use Rattle.commands.specs.declared.inputs.input_file.Stop.{Stop}
use Rattle.commands.specs.Delivery.{AllOthersUnchanged, AreStored, NamedText, named}
use Rattle.commands.specs.Ends.{AreInputsOf, RunEnds, auction_texts}
use Rattle.commands.specs.Ends.Concludes.{Unfit, StartOpen, Delivered}
use Rattle.commands.specs.Ends.RunEnds.{RunStopped, RunOutOfMemory, Concluded}
use Rattle.commands.specs.Inputs.{inputs_of}
use Rattle.commands.specs.Outside.{Outside, IsLinePrinted}
use Rattle.commands.specs.Promises.{IsSomeRecord}
use Rattle.commands.specs.RunPromises.{IsDecided, IsRunDone, IsPartStored, IsRecordAt, IsUnstored, IsUnwritten}
use Rattle.commands.specs.Records.{IsRecordIn, done_status, outcome, result_of, summary_in}
use Rattle.commands.specs.Messages.{unwritten_line}
use Rattle.commands.specs.Verifiable.{IsVerifiable}
use Rattle.commands.specs.Verified.{CanBeNamed, verified}
use Rattle.command_words.specs.Words.{RunNames, output_names}
use Rattle.commands.proofs.DeliveryLemmas.{AreApart, Ended, IsPart, ended-of, for-told, others-up-to}
use Rattle.commands.proofs.DeliveryLemmas.Ended.{Both, NotSaid, NotStored, OutOfRoom}
use Rattle.commands.proofs.Halts.{stopped-statuses}
use Rattle.commands.proofs.OutputNames.{HaveOwnNames}
use Rattle.commands.proofs.RoundTripLemmas.{record-verified}
use Rattle.commands.proofs.ReadingLemmas.{accepted-ascend, accepted-values}
use Rattle.commands.proofs.Statuses.{apart-lists, done-within, none-open, off, one-of, within}

-- Without a record, nothing is claimed of it.
pub absent : (found : Option Record) → found ≡ None → MatchOption found ⊤ IsSomeRecord
absent found none = rw none tt

-- The record of a run is backed in its own order.
in-own-order : (order : Order) (inputs : Inputs) (rec : Record) → IsRecordIn order inputs rec → IsBacked inputs.scenario inputs.book rec.order rec
in-own-order order inputs rec of = let backed = of.backed in subst (λ o. IsBacked inputs.scenario inputs.book o rec) (sym backed.order_is) backed

-- What holds of a record that is backed in some order.
pub some-record : (order : Order) (inputs : Inputs) (rec : Record) → IsBacked inputs.scenario inputs.book order rec →
    (rec.ending ≡ Done → IsPacking inputs.book (on_air_set inputs.scenario (outcome order inputs (undecided_of rec.steps))) rec.map) → IsSomeRecord rec
some-record order inputs rec backed packing = record {
  inputs = inputs;
  backed = subst (λ o. IsBacked inputs.scenario inputs.book o rec) (sym backed.order_is) backed;
  packing = λ done. subst (λ o. IsPacking inputs.book (on_air_set inputs.scenario (outcome o inputs (undecided_of rec.steps))) rec.map) (sym backed.order_is) (packing done);
}

-- The bytes under the name of the result.
first-held : (order : Order) (old new : List StoredFile) (names : RunNames) (inputs : Inputs) (rec : Record) → AreStored old new (auction_texts order names inputs rec) → bytes_of new names.result ≡ Some (result_of order inputs (undecided_of rec.steps))
first-held order old new names inputs rec st = st.hold 0 (named [] []) (omega arith)

-- Whether each output has a name of its own, if there is a record.
abbrev pub IsOnce : RunNames → Option Record → Type 0
IsOnce names found = (found ≡ None) ⊎ HaveOwnNames names

-- ---- a delivery

pub ended-statuses : (xs : List NamedText) (summary : List ℕ) (U : List ClockTest) (before after : Outside) (status : ℕ) → Ended xs summary (done_status U) before after status → IsTrue (is_in (0 ∷ 1 ∷ 4 ∷ 8 ∷ []) status)
ended-statuses xs summary U before after status (Both is all writes) =
    subst (λ z. IsTrue (is_in (0 ∷ 1 ∷ 4 ∷ 8 ∷ []) z)) (sym is) (within (0 ∷ 1 ∷ []) (0 ∷ 1 ∷ 4 ∷ 8 ∷ []) (done_status U) refl (done-within U))
ended-statuses xs summary U before after status (NotSaid is all rises less said) = one-of (0 ∷ 1 ∷ 4 ∷ 8 ∷ []) status 4 is refl
ended-statuses xs summary U before after status (NotStored x among is part rises unsteady said) = one-of (0 ∷ 1 ∷ 4 ∷ 8 ∷ []) status 4 is refl
ended-statuses xs summary U before after status (OutOfRoom x is part said) = one-of (0 ∷ 1 ∷ 4 ∷ 8 ∷ []) status 8 is refl

-- A run whose auction was finished, and the state after its delivery.
record IsCarried (order : Order) (names : RunNames) (before after : Outside) (status : ℕ) (found : Option Record) : Type 0 where
  pub inputs : Inputs
  pub rec : Record
  pub held : AreInputsOf names.inputs before inputs
  pub auction : IsRecordIn order inputs rec
  pub named : CanBeNamed inputs
  pub kept : IsHeld rec
  pub recorded : found ≡ Some rec
  pub ended : Ended (auction_texts order names inputs rec) (summary_in order inputs (undecided_of rec.steps)) (done_status (undecided_of rec.steps)) before after status

-- A finished auction that was reported ends at 0 or 1.
pub never : (U : List ClockTest) (status n : ℕ) → status ≡ done_status U → status ≡ n → is_in (0 ∷ 1 ∷ []) n ≡ false → ⊥
never U status n is at out = off (0 ∷ 1 ∷ []) status n (subst (λ z. IsTrue (is_in (0 ∷ 1 ∷ []) z)) (sym is) (done-within U)) at out

-- How far a run came: its inputs were not read, or memory ran out before any store; its auction ended at its start or
-- was finished.
data Came (order : Order) (names : RunNames) (before after : Outside) (status : ℕ) (found : Option Record) : Type 0 where
  Nowhere : IsTrue (is_in (3 ∷ 5 ∷ 8 ∷ []) status) → found ≡ None → after.files ≡ before.files → Came order names before after status found
  ToStart : IsTrue (is_in (6 ∷ 7 ∷ []) status) → MatchOption found ⊤ IsSomeRecord → after.files ≡ before.files → Came order names before after status found
  Through : IsCarried order names before after status found → Came order names before after status found

module _ (order : Order) (names : RunNames) (before after : Outside) (status : ℕ) (found : Option Record) where
  came : RunEnds order names before after status found → Came order names before after status found
  came (RunStopped s none) = Nowhere (stopped-statuses names.inputs before after status s) none s.files
  came (RunOutOfMemory s) = Nowhere (one-of (3 ∷ 5 ∷ 8 ∷ []) status 8 s.status_is refl) s.found_is s.files
  came (Concluded inputs rec are (Unfit of six kept said same)) =
      ToStart (one-of (6 ∷ 7 ∷ []) status 6 six refl) (rw kept (some-record order inputs rec of.backed (λ done. cc (sym of.ending ∙ done)))) same
  came (Concluded inputs rec are (StartOpen of seven kept said same)) =
      ToStart (one-of (6 ∷ 7 ∷ []) status 7 seven refl) (rw kept (some-record order inputs rec of.backed (λ done. cc (sym of.ending ∙ done)))) same
  came (Concluded inputs rec are (Delivered of can kept is d)) = Through (record {
    inputs = inputs;
    rec = rec;
    held = are;
    auction = of;
    named = can;
    kept = kept;
    recorded = is;
    ended = ended-of (auction_texts order names inputs rec) _ _ before after status d;
  })

  carried-statuses : IsCarried order names before after status found → IsTrue (is_in (0 ∷ 1 ∷ 4 ∷ 8 ∷ []) status)
  carried-statuses c = ended-statuses (auction_texts order names c.inputs c.rec) _ (undecided_of c.rec.steps) before after status c.ended

  -- At these statuses the auction was finished.
  carried : RunEnds order names before after status found → IsTrue (is_in (0 ∷ 1 ∷ 4 ∷ []) status) → IsCarried order names before after status found
  carried end h = go (came end)
    where
      go : Came order names before after status found → IsCarried order names before after status found
      go (Nowhere s none same) = absurd (apart-lists (0 ∷ 1 ∷ 4 ∷ []) (3 ∷ 5 ∷ 8 ∷ []) status refl h s)
      go (ToStart s some same) = absurd (apart-lists (0 ∷ 1 ∷ 4 ∷ []) (6 ∷ 7 ∷ []) status refl h s)
      go (Through c) = c

  none-some : (rec : Record) → found ≡ Some rec → found ≡ None → ⊥
  none-some rec is none = cc (sym is ∙ none)

  own : IsCarried order names before after status found → IsOnce names found → HaveOwnNames names
  own c (inl none) = absurd (none-some c.rec c.recorded none)
  own c (inr once) = once

  apart : (c : IsCarried order names before after status found) → IsOnce names found → AreApart (auction_texts order names c.inputs c.rec)
  apart c once = own c once (result_of order c.inputs (undecided_of c.rec.steps)) (channels_text c.rec.map) (transcript_text c.inputs.scenario c.inputs.book c.rec)

  -- ---- what was stored and printed

  part-stored : (files : List StoredFile) (c : IsCarried order names before after status found) → before.files ≡ Some files → (x : NamedText) → IsPart files (auction_texts order names c.inputs c.rec) x after → IsPartStored order files names after found
  part-stored files c modelled x p = record {
    inputs = c.inputs;
    accepted = c.held files modelled;
    rec = c.rec;
    recorded = c.recorded;
    auction = c.auction;
    new = p.new;
    now_modelled = p.now_modelled;
    part = p.part;
  }

  unstored : (files : List StoredFile) (c : IsCarried order names before after status found) → before.files ≡ Some files → (x : NamedText) → IsPart files (auction_texts order names c.inputs c.rec) x after →
      HasRisen before.faults after.faults → before.steady ≢ true → IsLinePrinted before after (unwritten_line x.name) → IsUnstored order files names before after found
  unstored files c modelled x p rises unsteady said = record {
    risen = rises;
    unsteady = unsteady;
    upto = record {
      inputs = c.inputs;
      accepted = c.held files modelled;
      rec = c.rec;
      recorded = c.recorded;
      auction = c.auction;
      new = p.new;
      now_modelled = p.now_modelled;
      part = p.part;
    };
    line = subst (λ (z : NamedText). IsLinePrinted before after (unwritten_line z.name)) (sym p.failed) said;
  }

  pub run-done : (files : List StoredFile) → RunEnds order names before after status found → IsOnce names found → before.files ≡ Some files → IsTrue (is_in (0 ∷ 1 ∷ []) status) → IsRunDone order files names before after status found
  run-done files end once modelled h = go c.ended
    where
      c : IsCarried order names before after status found
      c = carried end (within (0 ∷ 1 ∷ []) (0 ∷ 1 ∷ 4 ∷ []) status refl h)

      of : IsRecordIn order c.inputs c.rec
      of = c.auction

      go : Ended (auction_texts order names c.inputs c.rec) (summary_in order c.inputs (undecided_of c.rec.steps)) (done_status (undecided_of c.rec.steps)) before after status → IsRunDone order files names before after status found
      go (Both is all writes) = record {
        inputs = c.inputs;
        accepted = c.held files modelled;
        rec = c.rec;
        recorded = c.recorded;
        auction = c.auction;
        stored = all files modelled (apart c once);
        summary = writes;
        status_is = is;
      }
      go (NotSaid four all rises less said) = absurd (off (0 ∷ 1 ∷ []) status 4 h four refl)
      go (NotStored x among four part rises unsteady said) = absurd (off (0 ∷ 1 ∷ []) status 4 h four refl)
      go (OutOfRoom x eight part said) = absurd (off (0 ∷ 1 ∷ []) status 8 h eight refl)

  -- ---- the transcript

  same-some : (one other : Record) → Some one ≡ Some other → one ≡ other
  same-some one other e = cc e

  same-inputs : (one other : Inputs) (read : Result Inputs Stop) → read ≡ Ok one → read ≡ Ok other → one ≡ other
  same-inputs one other read e f = cc (sym e ∙ f)

  -- The transcript of a completed record verifies.
  run-verified : RunEnds order names before after status found → (files : List StoredFile) (inputs : Inputs) (rec : Record) → before.files ≡ Some files → inputs_of files names.inputs ≡ Ok inputs →
      found ≡ Some rec → rec.ending ≡ Done → verified inputs (transcript_text inputs.scenario inputs.book rec) ≡ Ok rec
  run-verified (RunStopped halted none) files inputs rec modelled accepted is done = absurd (none-some rec is none)
  run-verified (RunOutOfMemory out) files inputs rec modelled accepted is done = absurd (none-some rec is out.found_is)
  run-verified (Concluded inputs' rec' are (Unfit of six kept said same)) files inputs rec modelled accepted is done = absurd (cc (sym of.ending ∙ (ap (λ r. r.ending) (same-some rec' rec (sym kept ∙ is)) ∙ done)))
  run-verified (Concluded inputs' rec' are (StartOpen of seven kept said same)) files inputs rec modelled accepted is done = absurd (cc (sym of.ending ∙ (ap (λ r. r.ending) (same-some rec' rec (sym kept ∙ is)) ∙ done)))
  run-verified (Concluded inputs' rec' are (Delivered of can kept is' d)) files inputs rec modelled accepted is done =
      subst (λ r. verified inputs (transcript_text inputs.scenario inputs.book r) ≡ Ok r) (same-some rec' rec (sym is' ∙ is))
      (subst (λ i. verified i (transcript_text i.scenario i.book rec') ≡ Ok rec') (same-inputs inputs' inputs (inputs_of files names.inputs) (are files modelled) accepted)
      (record-verified files names.inputs inputs' rec' (are files modelled) can (in-own-order order inputs' rec' of) of.ending kept))

  pub run-verifiable : RunEnds order names before after status found → IsVerifiable names.inputs before found
  run-verifiable end = record { verifiable = run-verified end }

  pub run-decided : (files : List StoredFile) → RunEnds order names before after status found → IsOnce names found → before.files ≡ Some files → status ≡ 0 → IsDecided order files names before after
  run-decided files end once modelled zero =
      let done = run-done files end once modelled (one-of (0 ∷ 1 ∷ []) status 0 zero refl) in
      let none : undecided_of done.rec.steps ≡ [] = none-open (undecided_of done.rec.steps) (sym done.status_is ∙ zero) in
      let result : MatchOption after.files ⊥ (λ new. bytes_of new names.result ≡ Some (result_of order done.inputs (undecided_of done.rec.steps))) =
      for-told after.files (λ new. AreStored files new (auction_texts order names done.inputs done.rec)) (λ new. bytes_of new names.result ≡ Some (result_of order done.inputs (undecided_of done.rec.steps))) (λ new st. first-held order files new names done.inputs done.rec st) done.stored in
      record {
        inputs = done.inputs;
        accepted = done.accepted;
        result = subst (λ U. MatchOption after.files ⊥ (λ new. bytes_of new names.result ≡ Some (result_of order done.inputs U))) none result;
        summary = subst (λ U. Writes before.held after.held (summary_in order done.inputs U) (Ok tt)) none done.summary;
        paid = λ valued f bought. threshold done.inputs.scenario done.inputs.book order f (accepted-ascend files names.inputs done.inputs done.accepted) (accepted-values files names.inputs done.inputs valued done.accepted) bought;
      }

  pub run-stored : (files : List StoredFile) → RunEnds order names before after status found → IsOnce names found → before.files ≡ Some files → status ≡ 4 → IsUnwritten order files names before after found
  run-stored files end once modelled four = go c.ended
    where
      c : IsCarried order names before after status found
      c = carried end (one-of (0 ∷ 1 ∷ 4 ∷ []) status 4 four refl)

      of : IsRecordIn order c.inputs c.rec
      of = c.auction

      go : Ended (auction_texts order names c.inputs c.rec) (summary_in order c.inputs (undecided_of c.rec.steps)) (done_status (undecided_of c.rec.steps)) before after status → IsUnwritten order files names before after found
      go (Both is all writes) = absurd (never (undecided_of c.rec.steps) status 4 is four refl)
      go (NotSaid is all rises less said) = inr (record {
        inputs = c.inputs;
        accepted = c.held files modelled;
        rec = c.rec;
        recorded = c.recorded;
        auction = c.auction;
        stored = all files modelled (apart c once);
        failed = rises;
        unsure = less;
        summary = said;
      })
      go (NotStored x among is part rises unsteady said) = inl (unstored files c modelled x (part files modelled (apart c once)) rises unsteady said)
      go (OutOfRoom x eight part said) = absurd (omega arith)

  pub run-part : (files : List StoredFile) → RunEnds order names before after status found → IsOnce names found → before.files ≡ Some files → status ≡ 8 → IsSome found → IsPartStored order files names after found
  run-part files end once modelled eight some = go (came end)
    where
      left : (c : IsCarried order names before after status found) → Ended (auction_texts order names c.inputs c.rec) (summary_in order c.inputs (undecided_of c.rec.steps)) (done_status (undecided_of c.rec.steps)) before after status → IsPartStored order files names after found
      left c (Both is all writes) = absurd (never (undecided_of c.rec.steps) status 8 is eight refl)
      left c (NotSaid four all rises less said) = absurd (omega arith)
      left c (NotStored x among four part rises unsteady said) = absurd (omega arith)
      left c (OutOfRoom x is part said) = part-stored files c modelled x (part files modelled (apart c once))

      go : Came order names before after status found → IsPartStored order files names after found
      go (Nowhere s none same) = absurd (true≢false (sym some ∙ ap is_some none))
      go (ToStart s one same) = absurd (off (6 ∷ 7 ∷ []) status 8 s eight refl)
      go (Through c) = left c c.ended

  pub run-summed : RunEnds order names before after status found → IsTrue (is_in (0 ∷ 1 ∷ []) status) →
      (inputs : Inputs) × (rec : Record) × (found ≡ Some rec) × IsRecordIn order inputs rec
      × (status ≡ done_status (undecided_of rec.steps))
      × Writes before.held after.held (summary_in order inputs (undecided_of rec.steps)) (Ok tt)
  run-summed end h = go c.ended
    where
      c : IsCarried order names before after status found
      c = carried end (within (0 ∷ 1 ∷ []) (0 ∷ 1 ∷ 4 ∷ []) status refl h)

      go : Ended (auction_texts order names c.inputs c.rec) (summary_in order c.inputs (undecided_of c.rec.steps)) (done_status (undecided_of c.rec.steps)) before after status →
          (inputs : Inputs) × (rec : Record) × (found ≡ Some rec) × IsRecordIn order inputs rec
          × (status ≡ done_status (undecided_of rec.steps))
          × Writes before.held after.held (summary_in order inputs (undecided_of rec.steps)) (Ok tt)
      go (Both is all writes) = (c.inputs, c.rec, c.recorded, c.auction, is, writes)
      go (NotSaid four all rises less said) = absurd (off (0 ∷ 1 ∷ []) status 4 h four refl)
      go (NotStored x among four part rises unsteady said) = absurd (off (0 ∷ 1 ∷ []) status 4 h four refl)
      go (OutOfRoom x eight part said) = absurd (off (0 ∷ 1 ∷ []) status 8 h eight refl)

  pub run-surely : (files : List StoredFile) → RunEnds order names before after status found → before.files ≡ Some files → before.steady ≡ true →
      ((inputs : Inputs) (undecided : List ClockTest) → inputs_of files names.inputs ≡ Ok inputs → length (summary_in order inputs undecided) ≤ before.sure) → status ≢ 4
  run-surely files end modelled steady room = λ four.
      let c = carried end (one-of (0 ∷ 1 ∷ 4 ∷ []) status 4 four refl) in
      go c four c.ended
    where
      go : (c : IsCarried order names before after status found) → status ≡ 4 → Ended (auction_texts order names c.inputs c.rec) (summary_in order c.inputs (undecided_of c.rec.steps)) (done_status (undecided_of c.rec.steps)) before after status → ⊥
      go c four (Both is all writes) = never (undecided_of c.rec.steps) status 4 is four refl
      go c four (NotSaid is all rises less said) = let enough = room c.inputs (undecided_of c.rec.steps) (c.held files modelled) in omega arith
      go c four (NotStored x among is part rises unsteady said) = unsteady steady
      go c four (OutOfRoom x eight part said) = omega arith

  pub run-unwritten : RunEnds order names before after status found → status ≡ 4 → HasRisen before.faults after.faults ⊎ HasRisen before.sink_faults after.sink_faults
  run-unwritten end four = go c.ended
    where
      c : IsCarried order names before after status found
      c = carried end (one-of (0 ∷ 1 ∷ 4 ∷ []) status 4 four refl)

      of : IsRecordIn order c.inputs c.rec
      of = c.auction

      go : Ended (auction_texts order names c.inputs c.rec) (summary_in order c.inputs (undecided_of c.rec.steps)) (done_status (undecided_of c.rec.steps)) before after status → HasRisen before.faults after.faults ⊎ HasRisen before.sink_faults after.sink_faults
      go (Both is all writes) = absurd (never (undecided_of c.rec.steps) status 4 is four refl)
      go (NotSaid is all rises less said) = inr rises
      go (NotStored x among is part rises unsteady said) = inl rises
      go (OutOfRoom x eight part said) = absurd (omega arith)

  -- Files that are unchanged.
  stand : (files : List StoredFile) → before.files ≡ Some files → after.files ≡ before.files → MatchOption after.files ⊥ (λ new. AllOthersUnchanged files new (output_names names))
  stand files modelled same = rw (same ∙ modelled) (λ other ne. refl)

  pub run-others : (files : List StoredFile) → RunEnds order names before after status found → IsOnce names found → before.files ≡ Some files → MatchOption after.files ⊥ (λ new. AllOthersUnchanged files new (output_names names))
  run-others files end once modelled = go (came end)
    where
      all-stand : (c : IsCarried order names before after status found) → MatchOption after.files ⊥ (λ new. AreStored files new (auction_texts order names c.inputs c.rec)) → MatchOption after.files ⊥ (λ new. AllOthersUnchanged files new (output_names names))
      all-stand c stored = for-told after.files (λ new. AreStored files new (auction_texts order names c.inputs c.rec)) (λ new. AllOthersUnchanged files new (output_names names)) (λ new st. st.others) stored

      part-stands : (c : IsCarried order names before after status found) (x : NamedText) → IsPart files (auction_texts order names c.inputs c.rec) x after → MatchOption after.files ⊥ (λ new. AllOthersUnchanged files new (output_names names))
      part-stands c x p =
          let others : AllOthersUnchanged files p.new (output_names names) = others-up-to files p.new (auction_texts order names c.inputs c.rec) p.part in
          subst (λ o. MatchOption o ⊥ (λ new. AllOthersUnchanged files new (output_names names))) (sym p.now_modelled) others

      left : (c : IsCarried order names before after status found) → Ended (auction_texts order names c.inputs c.rec) (summary_in order c.inputs (undecided_of c.rec.steps)) (done_status (undecided_of c.rec.steps)) before after status → MatchOption after.files ⊥ (λ new. AllOthersUnchanged files new (output_names names))
      left c (Both is all writes) = all-stand c (all files modelled (apart c once))
      left c (NotSaid is all rises less said) = all-stand c (all files modelled (apart c once))
      left c (NotStored x among is part rises unsteady said) = part-stands c x (part files modelled (apart c once))
      left c (OutOfRoom x is part said) = part-stands c x (part files modelled (apart c once))

      go : Came order names before after status found → MatchOption after.files ⊥ (λ new. AllOthersUnchanged files new (output_names names))
      go (Nowhere s none same) = stand files modelled same
      go (ToStart s some same) = stand files modelled same
      go (Through c) = left c c.ended

  -- ---- the record, and the statuses

  pub run-statuses : RunEnds order names before after status found → IsTrue (is_in (0 ∷ 1 ∷ 3 ∷ 4 ∷ 5 ∷ 6 ∷ 7 ∷ 8 ∷ []) status)
  run-statuses end = go (came end)
    where
      go : Came order names before after status found → IsTrue (is_in (0 ∷ 1 ∷ 3 ∷ 4 ∷ 5 ∷ 6 ∷ 7 ∷ 8 ∷ []) status)
      go (Nowhere s none same) = within (3 ∷ 5 ∷ 8 ∷ []) (0 ∷ 1 ∷ 3 ∷ 4 ∷ 5 ∷ 6 ∷ 7 ∷ 8 ∷ []) status refl s
      go (ToStart s some same) = within (6 ∷ 7 ∷ []) (0 ∷ 1 ∷ 3 ∷ 4 ∷ 5 ∷ 6 ∷ 7 ∷ 8 ∷ []) status refl s
      go (Through c) = within (0 ∷ 1 ∷ 4 ∷ 8 ∷ []) (0 ∷ 1 ∷ 3 ∷ 4 ∷ 5 ∷ 6 ∷ 7 ∷ 8 ∷ []) status refl (carried-statuses c)

  pub run-recorded : RunEnds order names before after status found → IsTrue (is_in (0 ∷ 1 ∷ 4 ∷ []) status) → IsRecordAt order names before Done found
  run-recorded end h = let c = carried end h in record { inputs = c.inputs; held = c.held; rec = c.rec; recorded = c.recorded; auction = c.auction }

  pub run-unrecorded : RunEnds order names before after status found → IsTrue (is_in (2 ∷ 3 ∷ 5 ∷ 9 ∷ 10 ∷ []) status) → found ≡ None
  run-unrecorded end h = go (came end)
    where
      go : Came order names before after status found → found ≡ None
      go (Nowhere s none same) = none
      go (ToStart s some same) = absurd (apart-lists (2 ∷ 3 ∷ 5 ∷ 9 ∷ 10 ∷ []) (6 ∷ 7 ∷ []) status refl h s)
      go (Through c) = absurd (apart-lists (2 ∷ 3 ∷ 5 ∷ 9 ∷ 10 ∷ []) (0 ∷ 1 ∷ 4 ∷ 8 ∷ []) status refl h (carried-statuses c))

  pub run-backed : RunEnds order names before after status found → MatchOption found ⊤ IsSomeRecord
  run-backed end = go (came end)
    where
      go : Came order names before after status found → MatchOption found ⊤ IsSomeRecord
      go (Nowhere s none same) = absent found none
      go (ToStart s some same) = some
      go (Through c) = let of = c.auction in rw c.recorded (some-record order c.inputs c.rec of.backed (λ done. of.packing))

  pub run-untouched : RunEnds order names before after status found → found ≡ None → after.files ≡ before.files
  run-untouched end absent = go (came end)
    where
      go : Came order names before after status found → after.files ≡ before.files
      go (Nowhere s none same) = same
      go (ToStart s some same) = same
      go (Through c) = absurd (none-some c.rec c.recorded absent)

  pub run-ended : RunEnds order names before after status found → IsTrue (is_in (6 ∷ 7 ∷ []) status) → after.files ≡ before.files
  run-ended end h = go (came end)
    where
      go : Came order names before after status found → after.files ≡ before.files
      go (Nowhere s none same) = same
      go (ToStart s some same) = same
      go (Through c) = absurd (apart-lists (6 ∷ 7 ∷ []) (0 ∷ 1 ∷ 4 ∷ 8 ∷ []) status refl h (carried-statuses c))
