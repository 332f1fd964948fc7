-- For commands that go on after a verified transcript: what holds if it was not verified, and that there is only one result.
use Rattle.std.proofs.Common.{◌≡◌, ◌<◌, ◌∙◌, ℕ, inl, inr, List, [], ◌∷◌, length, refl, sym, subst, Option, Some, None}
use Rattle.std.specs.Prelude.{Ok, Err, IsTrue}
use Rattle.pack_defs.specs.Lists.{is_in}
use Rattle.outside_io.specs.Files.{StoredFile, bytes_of}
use Rattle.auction_core.specs.Backed.{undecided_of}
use Rattle.auction_core.specs.declared.record.Record.{Record}
use Rattle.commands.specs.declared.messages.fault.TranscriptFault.{TranscriptFault}
use Rattle.commands.specs.declared.inputs.Inputs.{Inputs}
use Rattle.commands.specs.declared.inputs.input_file.Stop.TheVariants.{Refused}
use Rattle.commands.specs.declared.messages.refusal.Refusal.{Refusal}
use Rattle.commands.specs.Ends.{IsShown, VerifyEnds, IsStatusOr}
use Rattle.commands.specs.Ends.VerifyEnds.{VerifyStopped, VerifyOutOfMemory, NotLoaded, NotSound, Sound}
use Rattle.commands.specs.Inputs.{inputs_of, transcript_limit}
use Rattle.commands.specs.Outside.{Outside}
use Rattle.commands.specs.Verified.{verified}
use Rattle.commands.specs.VerifyPromises.{IsGiven, VerifyPromises}
use Rattle.command_words.specs.Words.{VerifyNames}
use Rattle.commands.proofs.Halts.{not-both, stopped-statuses}
use Rattle.commands.proofs.Statuses.{apart-lists, done-within, off, one-of, within}
use Rattle.auction_cmd.proofs.VerifyEndLemmas.{is-given, not-both-verified, not-long, same-record, same-verified, unloaded-statuses}
use Rattle.auction_cmd.proofs.VerifyLemmas.{verify-promises}

-- ---- a transcript that does not verify

-- if a command ended as `verify` without a record
pub unshown-statuses : (names : VerifyNames) (before after : Outside) (status : ℕ) (found : Option Record) → VerifyEnds names before after status found → found ≡ None → IsTrue (is_in (3 ∷ 5 ∷ 8 ∷ 9 ∷ []) status)
unshown-statuses names before after status found (VerifyStopped s none) absent = within (3 ∷ 5 ∷ 8 ∷ []) (3 ∷ 5 ∷ 8 ∷ 9 ∷ []) status refl (stopped-statuses names.inputs before after status s)
unshown-statuses names before after status found (VerifyOutOfMemory s) absent = one-of (3 ∷ 5 ∷ 8 ∷ 9 ∷ []) status 8 s.status_is refl
unshown-statuses names before after status found (NotLoaded inputs are n none same) absent = within (3 ∷ 5 ∷ []) (3 ∷ 5 ∷ 8 ∷ 9 ∷ []) status refl (unloaded-statuses names.transcript before after status n)
unshown-statuses names before after status found (NotSound inputs text fault are can held is nine none said same) absent = one-of (3 ∷ 5 ∷ 8 ∷ 9 ∷ []) status 9 nine refl
unshown-statuses names before after status found (Sound inputs text rec are can held is of kept p) absent = cc (sym kept ∙ absent)

-- what `verify` would have completed was not completed because memory ran out or an unsteady folder failed
pub unshown-or : (names : VerifyNames) (before after : Outside) (status wanted : ℕ) (found : Option Record) (files : List StoredFile) (inputs : Inputs) (text : List ℕ) (rec : Record) → VerifyEnds names before after status found → found ≡ None → before.files ≡ Some files → IsGiven files names inputs text → verified inputs text ≡ Ok rec → IsStatusOr wanted before status
unshown-or names before after status wanted found files inputs text rec end none modelled g ok =
    let v : VerifyPromises names before after status found = verify-promises names before after status found end in
    let statuses = unshown-statuses names before after status found end none in
    elim (v.complete files inputs text rec modelled g ok) [
      | inl (inl done) ↦ absurd (apart-lists (0 ∷ 1 ∷ []) (3 ∷ 5 ∷ 8 ∷ 9 ∷ []) status refl (subst (λ z. IsTrue (is_in (0 ∷ 1 ∷ []) z)) (sym done) (done-within (undecided_of rec.steps))) statuses)
      | inl (inr other) ↦ inr other
      | inr four ↦ absurd (off (3 ∷ 5 ∷ 8 ∷ 9 ∷ []) status 4 statuses four refl)
    ]

-- ---- a sound transcript

-- what verifies is what the files hold
pub shown-given : (files : List StoredFile) (names : VerifyNames) (before : Outside) (inputs : Inputs) (rec : Record) → before.files ≡ Some files → (s : IsShown names before inputs rec) → IsGiven files names inputs s.text
shown-given files names before inputs rec modelled s = is-given files names before inputs s.text modelled s.accepted s.held

-- and it is the only result of the check
pub shown-is : (files : List StoredFile) (names : VerifyNames) (before : Outside) (own inputs : Inputs) (text : List ℕ) (rec other : Record) → before.files ≡ Some files → IsShown names before own rec → IsGiven files names inputs text → verified inputs text ≡ Ok other → rec ≡ other
shown-is files names before own inputs text rec other modelled s g ok =
    same-record rec other (verified own s.text) s.sound (same-verified files names own inputs s.text text (shown-given files names before own rec modelled s) g ∙ ok)

-- a transcript that verifies is not rejected
pub shown-not-refused : {X : Type 0} (files : List StoredFile) (names : VerifyNames) (before : Outside) (own inputs : Inputs) (text : List ℕ) (rec : Record) (fault : TranscriptFault) → before.files ≡ Some files → IsShown names before own rec → IsGiven files names inputs text → verified inputs text ≡ Err fault → X
shown-not-refused files names before own inputs text rec fault modelled s g err =
    absurd (not-both-verified rec fault (verified own s.text) s.sound (same-verified files names own inputs s.text text (shown-given files names before own rec modelled s) g ∙ err))

pub shown-not-halted : {X : Type 0} (files : List StoredFile) (names : VerifyNames) (before : Outside) (own : Inputs) (rec : Record) (why : Refusal) → before.files ≡ Some files → IsShown names before own rec → inputs_of files names.inputs ≡ Err (Refused why) → X
shown-not-halted files names before own rec why modelled s err = absurd (not-both own (Refused why) (sym (s.accepted files modelled) ∙ err))

pub shown-not-long : {X : Type 0} (files : List StoredFile) (names : VerifyNames) (before : Outside) (own : Inputs) (rec : Record) (bytes : List ℕ) → before.files ≡ Some files → IsShown names before own rec → bytes_of files names.transcript ≡ Some bytes → transcript_limit < length bytes → X
shown-not-long files names before own rec bytes modelled s is more = absurd (not-long files names own s.text bytes (shown-given files names before own rec modelled s) is more)
