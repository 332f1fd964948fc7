-- The reading of the inputs: what stopped it, and what follows.
use Rattle.std.proofs.Common.{◌≡◌, ◌≢◌, ◌⊎◌, ◌∙◌, ℕ, true, inl, inr, List, [], ◌∷◌, refl, sym, subst, arith}
use Rattle.std.specs.Prelude.{Some, Ok, Err, Result, IsTrue}
use Rattle.pack_defs.specs.Lists.{is_in}
use Rattle.outside_io.specs.Faults.{HasRisen}
use Rattle.outside_io.specs.Files.{StoredFile}
use Rattle.commands.specs.declared.inputs.Inputs.{Inputs}
use Rattle.commands.specs.declared.inputs.input_file.Stop.{Stop}
use Rattle.commands.specs.declared.inputs.input_file.Stop.TheVariants.{CannotRead, Refused, NoMemory}
use Rattle.command_words.specs.declared.run_words.Input.{Input}
use Rattle.commands.specs.declared.messages.refusal.Refusal.{Refusal}
use Rattle.commands.specs.Ends.{AreInputsOf, ExplainsHalt, IsHalted, IsStatusOr}
use Rattle.commands.specs.Inputs.{Agrees, RisesAt, inputs_of}
use Rattle.commands.specs.Outside.{Outside, IsLinePrinted}
use Rattle.commands.specs.Promises.{AreInputsPresent, ReadsInputs}
use Rattle.commands.specs.Refusal.{refusal_line}
use Rattle.command_words.specs.Words.{name_of}
use Rattle.commands.specs.Messages.{memory_line, unread_line}
use Rattle.command_words.specs.Words.{InputNames}
use Rattle.commands.proofs.ReadingLemmas.{can-read}
use Rattle.commands.proofs.Statuses.{off, one-of}

pub stopped-statuses : (names : InputNames) (before after : Outside) (status : ℕ) → IsHalted names before after status → IsTrue (is_in (3 ∷ 5 ∷ 8 ∷ []) status)
stopped-statuses names before after status h = by h.stop h.explains
  where
    by : (stop : Stop) → ExplainsHalt names stop before.held after.held before.sink_faults after.sink_faults status → IsTrue (is_in (3 ∷ 5 ∷ 8 ∷ []) status)
    by (CannotRead input) e = one-of (3 ∷ 5 ∷ 8 ∷ []) status 3 e.0 refl
    by (Refused why) e = one-of (3 ∷ 5 ∷ 8 ∷ []) status 5 e.0 refl
    by NoMemory e = one-of (3 ∷ 5 ∷ 8 ∷ []) status 8 e.0 refl

pub stopped-unread : (names : InputNames) (before after : Outside) (status : ℕ) → IsHalted names before after status → status ≡ 3 → HasRisen before.faults after.faults
stopped-unread names before after status h three = by h.stop h.counted.rises h.explains
  where
    by : (stop : Stop) → RisesAt {A = Inputs} before.faults after.faults (Err stop) → ExplainsHalt names stop before.held after.held before.sink_faults after.sink_faults status → HasRisen before.faults after.faults
    by (CannotRead input) rises e = rises
    by (Refused why) rises e = let five = e.0 in absurd (omega arith)
    by NoMemory rises e = let eight = e.0 in absurd (omega arith)

pub stopped-memory : (names : InputNames) (before after : Outside) (status : ℕ) → IsHalted names before after status → status ≡ 8 → IsLinePrinted before after memory_line
stopped-memory names before after status h eight = by h.stop h.explains
  where
    by : (stop : Stop) → ExplainsHalt names stop before.held after.held before.sink_faults after.sink_faults status → IsLinePrinted before after memory_line
    by (CannotRead input) e = let three = e.0 in absurd (omega arith)
    by (Refused why) e = let five = e.0 in absurd (omega arith)
    by NoMemory e = e.1

-- How a reading of the inputs ends: it stopped; memory ran out; or it succeeded.
pub data Reading (names : InputNames) (before after : Outside) (status : ℕ) : Type 0 where
  Halted : IsHalted names before after status → Reading names before after status
  Short : status ≡ 8 → Reading names before after status
  Went : (inputs : Inputs) → AreInputsOf names before inputs → IsTrue (is_in (0 ∷ 1 ∷ 4 ∷ 6 ∷ 7 ∷ 8 ∷ []) status) → Reading names before after status

-- ---- what follows from a reading

abbrev pub held : Inputs → Result Inputs Stop
held inputs = Ok inputs

abbrev pub err : Stop → Result Inputs Stop
err stop = Err stop

pub not-both : (inputs : Inputs) (stop : Stop) → held inputs ≡ err stop → ⊥
not-both inputs stop e = cc

pub refused-cause : (names : InputNames) (before after : Outside) (status : ℕ) (files : List StoredFile) → Reading names before after status → before.files ≡ Some files → status ≡ 5 →
    (why : Refusal) × (inputs_of files names ≡ Err (Refused why)) × IsLinePrinted before after (refusal_line names why)
refused-cause names before after status files (Halted h) modelled five = by h.stop (h.modelled files modelled) h.explains
  where
    by : (stop : Stop) → Agrees {A = Inputs} {B = Inputs} (λ i. i) before.steady (inputs_of files names) (Err stop) → ExplainsHalt names stop before.held after.held before.sink_faults after.sink_faults status →
        (why : Refusal) × (inputs_of files names ≡ Err (Refused why)) × IsLinePrinted before after (refusal_line names why)
    by (CannotRead input) agrees e = let three = e.0 in absurd (omega arith)
    by (Refused why) agrees e = (why, agrees, e.1)
    by NoMemory agrees e = let eight = e.0 in absurd (omega arith)
refused-cause names before after status files (Short eight) modelled five = absurd (omega arith)
refused-cause names before after status files (Went inputs are on) modelled five = absurd (off (0 ∷ 1 ∷ 4 ∷ 6 ∷ 7 ∷ 8 ∷ []) status 5 on five refl)

-- The line names the input that could not be read.
pub unread-line : (names : InputNames) (before after : Outside) (status : ℕ) → Reading names before after status → status ≡ 3 → (input : Input) × IsLinePrinted before after (unread_line (name_of names input))
unread-line names before after status (Halted h) three = by h.stop h.explains
  where
    by : (stop : Stop) → ExplainsHalt names stop before.held after.held before.sink_faults after.sink_faults status → (input : Input) × IsLinePrinted before after (unread_line (name_of names input))
    by (CannotRead input) e = (input, e.1)
    by (Refused why) e = let five = e.0 in absurd (omega arith)
    by NoMemory e = let eight = e.0 in absurd (omega arith)
unread-line names before after status (Short eight) three = absurd (omega arith)
unread-line names before after status (Went inputs are on) three = absurd (off (0 ∷ 1 ∷ 4 ∷ 6 ∷ 7 ∷ 8 ∷ []) status 3 on three refl)

-- The reading stops at status 5 if the files hold rejected inputs, unless memory ran out or a fault occurred.
pub stops-at : (names : InputNames) (before after : Outside) (status : ℕ) (files : List StoredFile) (why : Refusal) → Reading names before after status → before.files ≡ Some files → inputs_of files names ≡ Err (Refused why) → IsStatusOr 5 before status
stops-at names before after status files why (Halted h) modelled is = by h.stop (h.modelled files modelled) h.explains
  where
    other : (i : Input) → err (Refused why) ≡ err (CannotRead i) → ⊥
    other i e = cc

    by : (stop : Stop) → Agrees {A = Inputs} {B = Inputs} (λ i. i) before.steady (inputs_of files names) (Err stop) → ExplainsHalt names stop before.held after.held before.sink_faults after.sink_faults status → IsStatusOr 5 before status
    by (CannotRead input) agrees e = inr (inr (e.0, λ steady. other input (sym is ∙ agrees steady)))
    by (Refused cause) agrees e = inl e.0
    by NoMemory agrees e = inr (inl e.0)
stops-at names before after status files why (Short eight) modelled is = inr (inl eight)
stops-at names before after status files why (Went inputs are on) modelled is = absurd (not-both inputs (Refused why) (sym (are files modelled) ∙ is))

pub read-there : (names : InputNames) (before after : Outside) (status : ℕ) (files : List StoredFile) → Reading names before after status → before.files ≡ Some files → before.steady ≡ true → AreInputsPresent files names → status ≢ 3
read-there names before after status files (Halted h) modelled steady there = by h.stop (h.modelled files modelled) h.explains
  where
    by : (stop : Stop) → Agrees {A = Inputs} {B = Inputs} (λ i. i) before.steady (inputs_of files names) (Err stop) → ExplainsHalt names stop before.held after.held before.sink_faults after.sink_faults status → status ≢ 3
    by (CannotRead input) agrees e = absurd (can-read files names input there (agrees steady))
    by (Refused why) agrees e = let five = e.0 in λ three. omega arith
    by NoMemory agrees e = let eight = e.0 in λ three. omega arith
read-there names before after status files (Short eight) modelled steady there = λ three. omega arith
read-there names before after status files (Went inputs are on) modelled steady there = λ three. off (0 ∷ 1 ∷ 4 ∷ 6 ∷ 7 ∷ 8 ∷ []) status 3 on three refl

pub missing-one : (names : InputNames) (before after : Outside) (status : ℕ) (files : List StoredFile) (input : Input) → Reading names before after status → before.files ≡ Some files → before.steady ≡ true → inputs_of files names ≡ Err (CannotRead input) →
    (status ≡ 8) ⊎ ((status ≡ 3) × IsLinePrinted before after (unread_line (name_of names input)))
missing-one names before after status files input (Halted h) modelled steady is = by h.stop (h.modelled files modelled) h.explains
  where
    same : (i : Input) → err (CannotRead i) ≡ err (CannotRead input) → i ≡ input
    same i e = cc

    other : (why : Refusal) → err (Refused why) ≡ err (CannotRead input) → ⊥
    other why e = cc

    by : (stop : Stop) → Agrees {A = Inputs} {B = Inputs} (λ i. i) before.steady (inputs_of files names) (Err stop) → ExplainsHalt names stop before.held after.held before.sink_faults after.sink_faults status →
        (status ≡ 8) ⊎ ((status ≡ 3) × IsLinePrinted before after (unread_line (name_of names input)))
    by (CannotRead i) agrees e = inr (e.0, subst (λ z. IsLinePrinted before after (unread_line (name_of names z))) (same i (sym (agrees steady) ∙ is)) e.1)
    by (Refused why) agrees e = absurd (other why (sym agrees ∙ is))
    by NoMemory agrees e = inl e.0
missing-one names before after status files input (Short eight) modelled steady is = inl eight
missing-one names before after status files input (Went inputs are on) modelled steady is = absurd (not-both inputs (CannotRead input) (sym (are files modelled) ∙ is))

-- If the files hold inputs, a reading that stopped ran out of memory or met a fault.
pub halted-held : (names : InputNames) (before after : Outside) (status n : ℕ) (files : List StoredFile) (inputs : Inputs) → IsHalted names before after status → before.files ≡ Some files → inputs_of files names ≡ Ok inputs → IsStatusOr n before status
halted-held names before after status n files inputs h modelled is = by h.stop (h.modelled files modelled) h.explains
  where
    by : (stop : Stop) → Agrees {A = Inputs} {B = Inputs} (λ i. i) before.steady (inputs_of files names) (Err stop) → ExplainsHalt names stop before.held after.held before.sink_faults after.sink_faults status → IsStatusOr n before status
    by (CannotRead input) agrees e = inr (inr (e.0, λ steady. not-both inputs (CannotRead input) (sym is ∙ agrees steady)))
    by (Refused why) agrees e = absurd (not-both inputs (Refused why) (sym is ∙ agrees))
    by NoMemory agrees e = inr (inl e.0)

pub same-inputs : (a b : Inputs) → held a ≡ held b → a ≡ b
same-inputs a b e = cc

-- What is promised of the inputs, from their reading.
pub reads-inputs : (names : InputNames) (before after : Outside) (status : ℕ) → Reading names before after status → ReadsInputs names before after status
reads-inputs names before after status r = record {
  refused = λ files modelled five. refused-cause names before after status files r modelled five;
  refuses = λ files why modelled is. stops-at names before after status files why r modelled is;
  unread_says = λ three. unread-line names before after status r three;
  surely_read = λ files modelled steady there. read-there names before after status files r modelled steady there;
  missing = λ files input modelled steady is. missing-one names before after status files input r modelled steady is;
}
