-- How `verify` ends: what each end implies, and what it excludes.
use Rattle.std.proofs.Common.{◌≡◌, ◌<◌, ◌≤◌, ◌∙◌, ℕ, List, [], ◌∷◌, length, refl, sym, ap, subst, arith, Option, Some, None}
use Rattle.std.specs.Prelude.{Ok, Err, Result, IsTrue}
use Rattle.pack_defs.specs.ClockRule.{ClockTest}
use Rattle.pack_defs.specs.Lists.{is_in}
use Rattle.outside_io.specs.Files.{StoredFile, bytes_of}
use Rattle.auction_core.specs.declared.record.Record.{Record}
use Rattle.commands.specs.declared.messages.fault.TranscriptFault.{TranscriptFault}
use Rattle.commands.specs.declared.inputs.Inputs.{Inputs}
use Rattle.commands.specs.Delivery.{IsPrinted}
use Rattle.commands.specs.Delivery.IsPrinted.{Written, CutShort}
use Rattle.commands.specs.Ends.{AreInputsOf, IsNotLoaded, IsTextHeld}
use Rattle.commands.specs.Ends.IsNotLoaded.{Unloaded, LongText}
use Rattle.commands.specs.Inputs.{transcript_limit}
use Rattle.commands.specs.Outside.{Outside}
use Rattle.commands.specs.Records.{done_status}
use Rattle.commands.specs.Verified.{verified}
use Rattle.commands.specs.VerifyPromises.{IsGiven}
use Rattle.command_words.specs.Words.{VerifyNames}
use Rattle.commands.proofs.Halts.{same-inputs}
use Rattle.commands.proofs.Statuses.{done-within, off, one-of, within}

-- ---- the statuses of an end

pub printed-statuses : (text : List ℕ) (U : List ClockTest) (before after : Outside) (status : ℕ) → IsPrinted text (done_status U) before after status → IsTrue (is_in (0 ∷ 1 ∷ 4 ∷ []) status)
printed-statuses text U before after status (Written is same writes) =
    subst (λ z. IsTrue (is_in (0 ∷ 1 ∷ 4 ∷ []) z)) (sym is) (within (0 ∷ 1 ∷ []) (0 ∷ 1 ∷ 4 ∷ []) (done_status U) refl (done-within U))
printed-statuses text U before after status (CutShort four same rises less said) = one-of (0 ∷ 1 ∷ 4 ∷ []) status 4 four refl

pub printed-files : (text : List ℕ) (done : ℕ) (before after : Outside) (status : ℕ) → IsPrinted text done before after status → after.files ≡ before.files
printed-files text done before after status (Written is same writes) = same
printed-files text done before after status (CutShort four same rises less said) = same

-- a result that was printed completely does not end at status 4
pub never-four : (U : List ClockTest) (status : ℕ) → status ≡ done_status U → status ≡ 4 → ⊥
never-four U status is four = off (0 ∷ 1 ∷ []) status 4 (subst (λ z. IsTrue (is_in (0 ∷ 1 ∷ []) z)) (sym is) (done-within U)) four refl

pub unloaded-statuses : {most : ℕ} (name : List ℕ) (before after : Outside) (status : ℕ) → IsNotLoaded most name before after status → IsTrue (is_in (3 ∷ 5 ∷ []) status)
unloaded-statuses name before after status (Unloaded three rises absent said) = one-of (3 ∷ 5 ∷ []) status 3 three refl
unloaded-statuses name before after status (LongText five long said) = one-of (3 ∷ 5 ∷ []) status 5 five refl

-- ---- what is given

pub is-given : (files : List StoredFile) (names : VerifyNames) (before : Outside) (inputs : Inputs) (text : List ℕ) → before.files ≡ Some files → AreInputsOf names.inputs before inputs → IsTextHeld names before text → IsGiven files names inputs text
is-given files names before inputs text modelled are held = record { accepted = are files modelled; modelled = (held files modelled).0; within = (held files modelled).1 }

pub same-text : (a b : List ℕ) → Some a ≡ Some b → a ≡ b
same-text a b e = cc

pub no-text : (text : List ℕ) (held : Option (List ℕ)) → held ≡ None → held ≡ Some text → ⊥
no-text text held none is = cc (sym none ∙ is)

pub over : (limit n : ℕ) → limit < n → n ≤ limit → ⊥
over limit n more most = omega arith

-- the given text is not too long
pub not-long : (files : List StoredFile) (names : VerifyNames) (inputs : Inputs) (text bytes : List ℕ) → IsGiven files names inputs text → bytes_of files names.transcript ≡ Some bytes → transcript_limit < length bytes → ⊥
not-long files names inputs text bytes g is more =
    let same : bytes ≡ text = same-text bytes text (sym is ∙ g.modelled) in
    over transcript_limit (length text) (subst (λ z. transcript_limit < length z) same more) g.within

-- two readings of the given files are equal
pub same-verified : (files : List StoredFile) (names : VerifyNames) (own inputs : Inputs) (t text : List ℕ) → IsGiven files names own t → IsGiven files names inputs text → verified own t ≡ verified inputs text
same-verified files names own inputs t text a b =
    let one : own ≡ inputs = same-inputs own inputs (sym a.accepted ∙ b.accepted) in
    let other : t ≡ text = same-text t text (sym a.modelled ∙ b.modelled) in
    ap (λ (i : Inputs). verified i t) one ∙ ap (λ z. verified inputs z) other

-- what verifies has no fault
pub not-both-verified : (rec : Record) (fault : TranscriptFault) (r : Result Record TranscriptFault) → r ≡ Ok rec → r ≡ Err fault → ⊥
not-both-verified rec fault r ok err = cc (sym ok ∙ err)

pub same-record : (a b : Record) (r : Result Record TranscriptFault) → r ≡ Ok a → r ≡ Ok b → a ≡ b
same-record a b r is other = cc (sym is ∙ other)
