-- The promises of `run` for an early end: at its inputs, at its start, or out of memory.
use Rattle.std.proofs.Common.{◌≡◌, ◌⊎◌, ◌∙◌, ℕ, true, false, inl, inr, List, [], ◌∷◌, refl, sym, ap, subst, arith, Option, Some}
use Rattle.std.specs.Prelude.{Ok, IsTrue}
use Rattle.std.proofs.lemmas.Bool.{true≢false}
use Rattle.pack_defs.specs.Lists.{is_in}
use Rattle.pack_defs.specs.Book.{BookView}
use Rattle.pack_defs.specs.declared.order.Order.{Order}
use Rattle.pack_defs.specs.Packing.{fits}
use Rattle.pack_defs.specs.Prices.{start_set}
use Rattle.pack_defs.proofs.FitsLaws.{fits-from}
use Rattle.pack_defs.proofs.Members.{Contains-nil}
use Rattle.outside_io.specs.Faults.{HasRisen}
use Rattle.outside_io.specs.Files.{StoredFile}
use Rattle.auction_core.specs.declared.record.Ending.TheVariants.{StartRefuted, StartUndecided}
use Rattle.auction_core.specs.declared.record.Record.{Record}
use Rattle.auction_core.specs.Backed.{undecided_of}
use Rattle.auction_core.proofs.StartShown.{open-some}
use Rattle.commands.specs.declared.inputs.Inputs.{Inputs}
use Rattle.commands.specs.Delivery.{Delivers}
use Rattle.commands.specs.Ends.{RunEnds, auction_texts, IsStatusOr}
use Rattle.commands.specs.Ends.Concludes.{Unfit, StartOpen, Delivered}
use Rattle.commands.specs.Ends.RunEnds.{RunStopped, RunOutOfMemory, Concluded}
use Rattle.commands.specs.Inputs.{inputs_of}
use Rattle.commands.specs.Outside.{Outside, IsLinePrinted}
use Rattle.commands.specs.RunPromises.{IsStartLeftOpen, IsRecordAt}
use Rattle.commands.specs.Records.{StartFits, StartUnfit, done_status, summary_in}
use Rattle.commands.specs.Messages.{memory_line, unfit_line}
use Rattle.command_words.specs.Words.{RunNames}
use Rattle.commands.proofs.DeliveryLemmas.{Ended, ended-of}
use Rattle.commands.proofs.DeliveryLemmas.Ended.{Both, NotSaid, NotStored, OutOfRoom}
use Rattle.commands.proofs.Halts.{Reading, halted-held, same-inputs, stopped-memory, stopped-statuses, stopped-unread}
use Rattle.commands.proofs.Halts.Reading.{Halted, Short, Went}
use Rattle.commands.proofs.RunLemmas.{ended-statuses, never}
use Rattle.commands.proofs.Statuses.{either-done, not-in, off, one-of, within}

-- A set of no station fits.
pub nobody-fits : (book : BookView) (set : List ℕ) → set ≡ [] → fits book set ≡ true
nobody-fits book set none = rw none (fits-from book [] (record { entries = []; stations = refl; clean = record { on_domain = λ x l. absurd (Contains-nil x l); apart = λ x y l m. absurd (Contains-nil x l) } }))

module _ (order : Order) (names : RunNames) (before after : Outside) (status : ℕ) (found : Option Record) where
  -- The statuses at which a delivery may end.
  pub at-end : (inputs : Inputs) (rec : Record) → Delivers (auction_texts order names inputs rec) (summary_in order inputs (undecided_of rec.steps)) (done_status (undecided_of rec.steps)) before after status → IsTrue (is_in (0 ∷ 1 ∷ 4 ∷ 8 ∷ []) status)
  at-end inputs rec d = ended-statuses (auction_texts order names inputs rec) _ (undecided_of rec.steps) before after status (ended-of _ _ _ before after status d)

  pub run-reading : RunEnds order names before after status found → Reading names.inputs before after status
  run-reading (RunStopped s none) = Halted s
  run-reading (RunOutOfMemory s) = Short s.status_is
  run-reading (Concluded inputs rec are (Unfit of is kept said files)) = Went inputs are (one-of (0 ∷ 1 ∷ 4 ∷ 6 ∷ 7 ∷ 8 ∷ []) status 6 is refl)
  run-reading (Concluded inputs rec are (StartOpen of is kept said files)) = Went inputs are (one-of (0 ∷ 1 ∷ 4 ∷ 6 ∷ 7 ∷ 8 ∷ []) status 7 is refl)
  run-reading (Concluded inputs rec are (Delivered of can held kept d)) =
      Went inputs are (within (0 ∷ 1 ∷ 4 ∷ 8 ∷ []) (0 ∷ 1 ∷ 4 ∷ 6 ∷ 7 ∷ 8 ∷ []) status refl (at-end inputs rec d))

  pub run-unfit : (files : List StoredFile) → RunEnds order names before after status found → before.files ≡ Some files → status ≡ 6 →
      (inputs : Inputs) × (inputs_of files names.inputs ≡ Ok inputs) × StartUnfit inputs × IsLinePrinted before after unfit_line
  run-unfit files (RunStopped s none) modelled six = absurd (off (3 ∷ 5 ∷ 8 ∷ []) status 6 (stopped-statuses names.inputs before after status s) six refl)
  run-unfit files (RunOutOfMemory s) modelled six = let eight = s.status_is in absurd (omega arith)
  run-unfit files (Concluded inputs rec are (Unfit of is kept said same)) modelled six = (inputs, are files modelled, of.starts, said)
  run-unfit files (Concluded inputs rec are (StartOpen of seven kept said same)) modelled six = absurd (omega arith)
  run-unfit files (Concluded inputs rec are (Delivered of can held kept d)) modelled six = absurd (off (0 ∷ 1 ∷ 4 ∷ 8 ∷ []) status 6 (at-end inputs rec d) six refl)

  pub run-unfits : (files : List StoredFile) (inputs : Inputs) → RunEnds order names before after status found → before.files ≡ Some files → inputs_of files names.inputs ≡ Ok inputs → StartUnfit inputs → IsStatusOr 6 before status ⊎ (status ≡ 7)
  run-unfits files inputs (RunStopped s none) modelled is unfit = inl (halted-held names.inputs before after status 6 files inputs s modelled is)
  run-unfits files inputs (RunOutOfMemory s) modelled is unfit = inl (inr (inl s.status_is))
  run-unfits files inputs (Concluded own rec are (Unfit of six kept said same)) modelled is unfit = inl (inl six)
  run-unfits files inputs (Concluded own rec are (StartOpen of seven kept said same)) modelled is unfit = inr seven
  run-unfits files inputs (Concluded own rec are (Delivered of can held kept d)) modelled is unfit =
      let same : own ≡ inputs = same-inputs own inputs (sym (are files modelled) ∙ is) in
      absurd (true≢false (sym (subst (λ (z : Inputs). fits z.book (start_set z.scenario) ≡ true) same of.starts) ∙ unfit))

  pub run-open : (files : List StoredFile) → RunEnds order names before after status found → before.files ≡ Some files → status ≡ 7 → IsStartLeftOpen order files names before after found
  run-open files (RunStopped s none) modelled seven = absurd (off (3 ∷ 5 ∷ 8 ∷ []) status 7 (stopped-statuses names.inputs before after status s) seven refl)
  run-open files (RunOutOfMemory s) modelled seven = let eight = s.status_is in absurd (omega arith)
  run-open files (Concluded inputs rec are (Unfit of six kept said same)) modelled seven = absurd (omega arith)
  run-open files (Concluded inputs rec are (StartOpen of is kept said same)) modelled seven =
      record { inputs = inputs; accepted = are files modelled; rec = rec; recorded = kept; auction = of; line = said }
  run-open files (Concluded inputs rec are (Delivered of can held kept d)) modelled seven = absurd (off (0 ∷ 1 ∷ 4 ∷ 8 ∷ []) status 7 (at-end inputs rec d) seven refl)

  pub run-nobody : (files : List StoredFile) (inputs : Inputs) → RunEnds order names before after status found → before.files ≡ Some files → inputs_of files names.inputs ≡ Ok inputs → start_set inputs.scenario ≡ [] → is_in (6 ∷ 7 ∷ []) status ≡ false
  run-nobody files inputs (RunStopped s none) modelled is nobody = not-in (3 ∷ 5 ∷ 8 ∷ []) (6 ∷ 7 ∷ []) status refl (stopped-statuses names.inputs before after status s)
  run-nobody files inputs (RunOutOfMemory s) modelled is nobody = not-in (8 ∷ []) (6 ∷ 7 ∷ []) status refl (one-of (8 ∷ []) status 8 s.status_is refl)
  run-nobody files inputs (Concluded own rec are (Unfit of six kept said same)) modelled is nobody =
      let one : own ≡ inputs = same-inputs own inputs (sym (are files modelled) ∙ is) in
      absurd (true≢false (sym (nobody-fits own.book (start_set own.scenario) (ap (λ (z : Inputs). start_set z.scenario) one ∙ nobody)) ∙ of.starts))
  run-nobody files inputs (Concluded own rec are (StartOpen of seven kept said same)) modelled is nobody =
      let one : own ≡ inputs = same-inputs own inputs (sym (are files modelled) ∙ is) in
      absurd (open-some own.scenario own.book order rec of.backed of.ending (ap (λ (z : Inputs). start_set z.scenario) one ∙ nobody))
  run-nobody files inputs (Concluded own rec are (Delivered of can held kept d)) modelled is nobody = not-in (0 ∷ 1 ∷ 4 ∷ 8 ∷ []) (6 ∷ 7 ∷ []) status refl (at-end own rec d)

  pub run-complete : (files : List StoredFile) (inputs : Inputs) → RunEnds order names before after status found → before.files ≡ Some files → inputs_of files names.inputs ≡ Ok inputs → StartFits inputs →
      IsStatusOr 0 before status ⊎ IsTrue (is_in (1 ∷ 4 ∷ 7 ∷ []) status)
  run-complete files inputs (RunStopped s none) modelled is fit = inl (halted-held names.inputs before after status 0 files inputs s modelled is)
  run-complete files inputs (RunOutOfMemory s) modelled is fit = inl (inr (inl s.status_is))
  run-complete files inputs (Concluded own rec are (Unfit of six kept said same)) modelled is fit =
      let one : own ≡ inputs = same-inputs own inputs (sym (are files modelled) ∙ is) in
      absurd (true≢false (sym fit ∙ subst (λ (z : Inputs). fits z.book (start_set z.scenario) ≡ false) one of.starts))
  run-complete files inputs (Concluded own rec are (StartOpen of seven kept said same)) modelled is fit = inr (one-of (1 ∷ 4 ∷ 7 ∷ []) status 7 seven refl)
  run-complete files inputs (Concluded own rec are (Delivered of can held kept d)) modelled is fit = by (ended-of _ _ _ before after status d)
    where
      by : Ended (auction_texts order names own rec) (summary_in order own (undecided_of rec.steps)) (done_status (undecided_of rec.steps)) before after status → IsStatusOr 0 before status ⊎ IsTrue (is_in (1 ∷ 4 ∷ 7 ∷ []) status)
      by (Both done all writes) = elim (either-done (undecided_of rec.steps) status done) [
        | inl zero ↦ inl (inl zero)
        | inr one ↦ inr (one-of (1 ∷ 4 ∷ 7 ∷ []) status 1 one refl)
      ]
      by (NotSaid four all rises less said) = inr (one-of (1 ∷ 4 ∷ 7 ∷ []) status 4 four refl)
      by (NotStored x among four part rises unsteady said) = inr (one-of (1 ∷ 4 ∷ 7 ∷ []) status 4 four refl)
      by (OutOfRoom x eight part said) = inl (inr (inl eight))

  pub run-refuted : RunEnds order names before after status found → status ≡ 6 → IsRecordAt order names before StartRefuted found
  run-refuted (RunStopped s none) six = absurd (off (3 ∷ 5 ∷ 8 ∷ []) status 6 (stopped-statuses names.inputs before after status s) six refl)
  run-refuted (RunOutOfMemory s) six = let eight = s.status_is in absurd (omega arith)
  run-refuted (Concluded inputs rec are (Unfit of is kept said same)) six = record { inputs = inputs; held = are; rec = rec; recorded = kept; auction = of }
  run-refuted (Concluded inputs rec are (StartOpen of seven kept said same)) six = absurd (omega arith)
  run-refuted (Concluded inputs rec are (Delivered of can held kept d)) six = absurd (off (0 ∷ 1 ∷ 4 ∷ 8 ∷ []) status 6 (at-end inputs rec d) six refl)

  pub run-opened : RunEnds order names before after status found → status ≡ 7 → IsRecordAt order names before StartUndecided found
  run-opened (RunStopped s none) seven = absurd (off (3 ∷ 5 ∷ 8 ∷ []) status 7 (stopped-statuses names.inputs before after status s) seven refl)
  run-opened (RunOutOfMemory s) seven = let eight = s.status_is in absurd (omega arith)
  run-opened (Concluded inputs rec are (Unfit of six kept said same)) seven = absurd (omega arith)
  run-opened (Concluded inputs rec are (StartOpen of is kept said same)) seven = record { inputs = inputs; held = are; rec = rec; recorded = kept; auction = of }
  run-opened (Concluded inputs rec are (Delivered of can held kept d)) seven = absurd (off (0 ∷ 1 ∷ 4 ∷ 8 ∷ []) status 7 (at-end inputs rec d) seven refl)

  pub run-unread : RunEnds order names before after status found → status ≡ 3 → HasRisen before.faults after.faults
  run-unread (RunStopped s none) three = stopped-unread names.inputs before after status s three
  run-unread (RunOutOfMemory s) three = let eight = s.status_is in absurd (omega arith)
  run-unread (Concluded inputs rec are (Unfit of six kept said same)) three = absurd (omega arith)
  run-unread (Concluded inputs rec are (StartOpen of seven kept said same)) three = absurd (omega arith)
  run-unread (Concluded inputs rec are (Delivered of can held kept d)) three = absurd (off (0 ∷ 1 ∷ 4 ∷ 8 ∷ []) status 3 (at-end inputs rec d) three refl)

  pub run-memory : RunEnds order names before after status found → status ≡ 8 → IsLinePrinted before after memory_line
  run-memory (RunStopped s none) eight = stopped-memory names.inputs before after status s eight
  run-memory (RunOutOfMemory s) eight = s.line
  run-memory (Concluded inputs rec are (Unfit of six kept said same)) eight = absurd (omega arith)
  run-memory (Concluded inputs rec are (StartOpen of seven kept said same)) eight = absurd (omega arith)
  run-memory (Concluded inputs rec are (Delivered of can held kept d)) eight = by (ended-of _ _ _ before after status d)
    where
      by : Ended (auction_texts order names inputs rec) (summary_in order inputs (undecided_of rec.steps)) (done_status (undecided_of rec.steps)) before after status → IsLinePrinted before after memory_line
      by (Both is all writes) = absurd (never (undecided_of rec.steps) status 8 is eight refl)
      by (NotSaid four all rises less said) = absurd (omega arith)
      by (NotStored x among four part rises unsteady said) = absurd (omega arith)
      by (OutOfRoom x is part said) = said
