-- The promises of `check` follow from how it ends.
use Rattle.std.proofs.Common.{◌≡◌, ◌≢◌, ◌⊎◌, ◌≤◌, ℕ, inl, inr, List, [], ◌∷◌, length, refl, arith, Option, Some, None}
use Rattle.std.specs.Prelude.{Ok, IsTrue}
use Rattle.pack_defs.specs.Lists.{is_in}
use Rattle.outside_io.specs.Faults.{HasRisen}
use Rattle.outside_io.specs.Files.{StoredFile}
use Rattle.outside_io.specs.Loads.{Writes}
use Rattle.auction_core.specs.declared.record.Record.{Record}
use Rattle.commands.specs.declared.inputs.Inputs.{Inputs}
use Rattle.commands.specs.Check.{counts_text}
use Rattle.commands.specs.CheckPromises.{CheckPromises, ModelledCheck}
use Rattle.commands.specs.Ends.{CheckEnds, IsStatusOr}
use Rattle.commands.specs.Ends.CheckEnds.{CheckStopped, CheckOutOfMemory, Counted, CountsCut}
use Rattle.commands.specs.Inputs.{inputs_of}
use Rattle.commands.specs.Outside.{Outside, IsLinePrinted}
use Rattle.commands.specs.Messages.{memory_line}
use Rattle.command_words.specs.Words.{InputNames}
use Rattle.commands.proofs.Halts.{Reading, halted-held, reads-inputs, stopped-memory, stopped-statuses, stopped-unread}
use Rattle.commands.proofs.Halts.Reading.{Halted, Short, Went}
use Rattle.commands.proofs.Statuses.{off, one-of, within}

check-reading : (names : InputNames) (before after : Outside) (status : ℕ) (found : Option Record) → CheckEnds names before after status found → Reading names before after status
check-reading names before after status found (CheckStopped s none) = Halted s
check-reading names before after status found (CheckOutOfMemory s) = Short s.status_is
check-reading names before after status found (Counted inputs held is none writes files) = Went inputs held (one-of (0 ∷ 1 ∷ 4 ∷ 6 ∷ 7 ∷ 8 ∷ []) status 0 is refl)
check-reading names before after status found (CountsCut inputs held is none rises less said files) = Went inputs held (one-of (0 ∷ 1 ∷ 4 ∷ 6 ∷ 7 ∷ 8 ∷ []) status 4 is refl)

module _ (names : InputNames) (before after : Outside) (status : ℕ) (found : Option Record) where
  check-counted : (files : List StoredFile) → CheckEnds names before after status found → before.files ≡ Some files → status ≡ 0 →
      (inputs : Inputs) × (inputs_of files names ≡ Ok inputs) × Writes before.held after.held (counts_text inputs) (Ok tt)
  check-counted files (CheckStopped s none) modelled zero = absurd (off (3 ∷ 5 ∷ 8 ∷ []) status 0 (stopped-statuses names before after status s) zero refl)
  check-counted files (CheckOutOfMemory s) modelled zero = let eight = s.status_is in absurd (omega arith)
  check-counted files (Counted inputs are is none writes same) modelled zero = (inputs, are files modelled, writes)
  check-counted files (CountsCut inputs are four none rises less said same) modelled zero = absurd (omega arith)

  check-none : CheckEnds names before after status found → found ≡ None
  check-none (CheckStopped s none) = none
  check-none (CheckOutOfMemory s) = s.found_is
  check-none (Counted inputs are is none writes same) = none
  check-none (CountsCut inputs are four none rises less said same) = none

  check-files : CheckEnds names before after status found → after.files ≡ before.files
  check-files (CheckStopped s none) = s.files
  check-files (CheckOutOfMemory s) = s.files
  check-files (Counted inputs are is none writes same) = same
  check-files (CountsCut inputs are four none rises less said same) = same

  check-statuses : CheckEnds names before after status found → IsTrue (is_in (0 ∷ 3 ∷ 4 ∷ 5 ∷ 8 ∷ []) status)
  check-statuses (CheckStopped s none) = within (3 ∷ 5 ∷ 8 ∷ []) (0 ∷ 3 ∷ 4 ∷ 5 ∷ 8 ∷ []) status refl (stopped-statuses names before after status s)
  check-statuses (CheckOutOfMemory s) = one-of (0 ∷ 3 ∷ 4 ∷ 5 ∷ 8 ∷ []) status 8 s.status_is refl
  check-statuses (Counted inputs are zero none writes same) = one-of (0 ∷ 3 ∷ 4 ∷ 5 ∷ 8 ∷ []) status 0 zero refl
  check-statuses (CountsCut inputs are four none rises less said same) = one-of (0 ∷ 3 ∷ 4 ∷ 5 ∷ 8 ∷ []) status 4 four refl

  check-surely : (files : List StoredFile) → CheckEnds names before after status found → before.files ≡ Some files →
      ((inputs : Inputs) → inputs_of files names ≡ Ok inputs → length (counts_text inputs) ≤ before.sure) → status ≢ 4
  check-surely files (CheckStopped s none) modelled room = λ four. off (3 ∷ 5 ∷ 8 ∷ []) status 4 (stopped-statuses names before after status s) four refl
  check-surely files (CheckOutOfMemory s) modelled room = let eight = s.status_is in λ four. omega arith
  check-surely files (Counted inputs are zero none writes same) modelled room = λ four. omega arith
  check-surely files (CountsCut inputs are four none rises less said same) modelled room = let enough = room inputs (are files modelled) in absurd (omega arith)

  check-cut : (files : List StoredFile) → CheckEnds names before after status found → before.files ≡ Some files → status ≡ 4 →
      (inputs : Inputs) × (inputs_of files names ≡ Ok inputs) × HasRisen before.sink_faults after.sink_faults × IsLinePrinted before after (counts_text inputs)
  check-cut files (CheckStopped s none) modelled four = absurd (off (3 ∷ 5 ∷ 8 ∷ []) status 4 (stopped-statuses names before after status s) four refl)
  check-cut files (CheckOutOfMemory s) modelled four = let eight = s.status_is in absurd (omega arith)
  check-cut files (Counted inputs are zero none writes same) modelled four = absurd (omega arith)
  check-cut files (CountsCut inputs are is none rises less said same) modelled four = (inputs, are files modelled, rises, said)

  check-complete : (files : List StoredFile) (inputs : Inputs) → CheckEnds names before after status found → before.files ≡ Some files → inputs_of files names ≡ Ok inputs → IsStatusOr 0 before status ⊎ (status ≡ 4)
  check-complete files inputs (CheckStopped s none) modelled is = inl (halted-held names before after status 0 files inputs s modelled is)
  check-complete files inputs (CheckOutOfMemory s) modelled is = inl (inr (inl s.status_is))
  check-complete files inputs (Counted own are zero none writes same) modelled is = inl (inl zero)
  check-complete files inputs (CountsCut own are four none rises less said same) modelled is = inr four

  check-unread : CheckEnds names before after status found → status ≡ 3 → HasRisen before.faults after.faults
  check-unread (CheckStopped s none) three = stopped-unread names before after status s three
  check-unread (CheckOutOfMemory s) three = let eight = s.status_is in absurd (omega arith)
  check-unread (Counted inputs are zero none writes same) three = absurd (omega arith)
  check-unread (CountsCut inputs are four none rises less said same) three = absurd (omega arith)

  check-unwritten : CheckEnds names before after status found → status ≡ 4 → HasRisen before.faults after.faults ⊎ HasRisen before.sink_faults after.sink_faults
  check-unwritten (CheckStopped s none) four = absurd (off (3 ∷ 5 ∷ 8 ∷ []) status 4 (stopped-statuses names before after status s) four refl)
  check-unwritten (CheckOutOfMemory s) four = let eight = s.status_is in absurd (omega arith)
  check-unwritten (Counted inputs are zero none writes same) four = absurd (omega arith)
  check-unwritten (CountsCut inputs are is none rises less said same) four = inr rises

  check-memory : CheckEnds names before after status found → status ≡ 8 → IsLinePrinted before after memory_line
  check-memory (CheckStopped s none) eight = stopped-memory names before after status s eight
  check-memory (CheckOutOfMemory s) eight = s.line
  check-memory (Counted inputs are zero none writes same) eight = absurd (omega arith)
  check-memory (CountsCut inputs are four none rises less said same) eight = absurd (omega arith)

  told : (files : List StoredFile) → CheckEnds names before after status found → before.files ≡ Some files → ModelledCheck files names before after status
  told files end modelled = record {
    counted = λ zero. check-counted files end modelled zero;
    cut = λ four. check-cut files end modelled four;
    surely_counted = λ room. check-surely files end modelled room;
    counts = λ inputs held. check-complete files inputs end modelled held;
  }

  pub check-promises : CheckEnds names before after status found → CheckPromises names before after status found
  check-promises end = record {
    statuses = check-statuses end;
    no_record = check-none end;
    untouched = check-files end;
    inputs = reads-inputs names before after status (check-reading names before after status found end);
    failures = record { unread = check-unread end; unwritten = check-unwritten end; memory = check-memory end };
    modelled = λ files modelled. told files end modelled;
  }
