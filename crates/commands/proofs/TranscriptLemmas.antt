-- Reading a transcript and checking it, from the results of their parts.
use Rattle.std.proofs.Common.{◌≡◌, ◌≤◌, ◌∙◌, ℕ, Bool, List, refl, sym, ap, subst}
use Rattle.std.specs.Prelude.{Option, Some, None, Ok, Err, Result}
use Rattle.outside_io.specs.Files.{StoredFile}
use Rattle.outside_io.specs.declared.folder.LoadErr.{LoadErr}
use Rattle.outside_io.specs.declared.folder.LoadErr.TheVariants.{Failed, TooLong, NoMemory as NoLoad}
use Rattle.auction_core.specs.declared.record.Record.{Record}
use Rattle.auction_core.specs.Rule.{IsAuction}
use Rattle.transcript_text.specs.declared.error.TextErr.{TextErr}
use Rattle.transcript_text.specs.declared.error.TextErr.TheVariants.{Version, BadLine, Truncated, NoMemory as NoRoom}
use Rattle.auction_core.specs.declared.transcript.Transcript.{Transcript}
use Rattle.transcript_text.specs.Reading.{transcript_of}
use Rattle.transcript_text.specs.Steps.{Fails}
use Rattle.auction_core.specs.declared.prefix.ShownWhy.{ShownWhy}
use Rattle.auction_core.specs.NotShown.{not_shown}
use Rattle.transcript_check.specs.Sound.{IsSound, transcript_record}
use Rattle.commands.specs.declared.messages.fault.TranscriptFault.TheVariants.{Unshown}
use Rattle.commands.specs.declared.inputs.Inputs.{Inputs}
use Rattle.commands.specs.declared.shown.RecordErr.{RecordErr}
use Rattle.commands.specs.declared.shown.RecordErr.TheVariants.{Fault, NoMemory}
use Rattle.commands.specs.Ends.{AreInputsOf, IsTextHeld, VerifyEnds}
use Rattle.commands.specs.Ends.IsNotLoaded.{Unloaded, LongText}
use Rattle.commands.specs.Ends.VerifyEnds.{NotLoaded, NotSound, VerifyOutOfMemory}
use Rattle.commands.specs.Outside.{Outside}
use Rattle.commands.specs.Records.{IsRecordIn}
use Rattle.commands.specs.Shown.{ExplainsRecordErr, ExplainsLoad, IsTextRead, IsVerdict, not_read}
use Rattle.commands.specs.Verified.{CanBeNamed, record_by, shown_or, verified}
use Rattle.command_words.specs.Words.{VerifyNames}
use Rattle.commands.proofs.RecordLemmas.{record-in}
use Rattle.commands.proofs.MessageLemmas.{rises-before}

-- ---- the reading

-- The ending of a transcript that was not loaded.
pub unloaded-ends : (names : VerifyNames) (before after : Outside) (status : ℕ) (found : Option Record) (inputs : Inputs) (why : LoadErr) (modelled : Option (List StoredFile)) (steady : Bool) (faults come : ℕ) →
    AreInputsOf names.inputs before inputs → modelled ≡ before.files → steady ≡ before.steady → before.faults ≤ faults →
    IsTextRead inputs modelled steady faults after.faults come names.transcript (Err why) →
    ExplainsLoad names.transcript why before.held after.held before.sink_faults after.sink_faults status →
    found ≡ None → after.files ≡ before.files → VerifyEnds names before after status found
unloaded-ends names before after status found inputs Failed modelled steady faults come are is same kept h e none files =
    NotLoaded inputs are (Unloaded e.0 (rises-before before.faults faults after.faults kept h.0) (λ own at still. h.1 own (is ∙ at) (same ∙ still)) e.1) none files
unloaded-ends names before after status found inputs TooLong modelled steady faults come are is same kept h e none files =
    NotLoaded inputs are (LongText e.0 (λ own at. h own (is ∙ at)) e.1) none files
unloaded-ends names before after status found inputs NoLoad modelled steady faults come are is same kept h e none files =
    VerifyOutOfMemory (record { status_is = e.0; found_is = none; line = e.1; files = files })

-- ---- the check

-- The record of a sound transcript.
pub shown-verdict : (inputs : Inputs) (t : Transcript) (rec : Record) → IsAuction inputs.scenario inputs.book → IsSound inputs.scenario inputs.book t → not_shown inputs.scenario inputs.book t ≡ None →
    rec ≡ transcript_record inputs.scenario inputs.book t → IsVerdict inputs (record_by inputs (Ok t)) (Ok rec)
shown-verdict inputs t rec a sound none same =
    let own : IsRecordIn t.order inputs (transcript_record inputs.scenario inputs.book t) =
    record-in t.order inputs (transcript_record inputs.scenario inputs.book t) a sound.backed refl in (
      ap (λ o. shown_or o (transcript_record inputs.scenario inputs.book t)) none ∙ ap Ok (sym same),
      subst (λ (r : Record). IsRecordIn r.order inputs r) (sym same) own,
    )

-- The first step that is not shown.
pub unshown-verdict : (inputs : Inputs) (t : Transcript) (step : ℕ) (why : ShownWhy) → not_shown inputs.scenario inputs.book t ≡ Some (record { step = step; why = why }) →
    IsVerdict inputs (record_by inputs (Ok t)) (Err (Fault (Unshown step why)))
unshown-verdict inputs t step why is = ap (λ o. shown_or o (transcript_record inputs.scenario inputs.book t)) is

-- The verdict on what was read is the verdict on the text.
pub read-verdict : (inputs : Inputs) (text : List ℕ) (t : Transcript) (result : Result Record RecordErr) → transcript_of inputs.scenario inputs.book text ≡ Ok t →
    IsVerdict inputs (record_by inputs (Ok t)) result → IsVerdict inputs (verified inputs text) result
unfolding verified
read-verdict inputs text t result is h = subst (λ o. IsVerdict inputs (record_by inputs o) result) (sym is) h

-- A text that was not read.
pub unread-verdict : (inputs : Inputs) (text : List ℕ) (why : TextErr) → Fails why (transcript_of inputs.scenario inputs.book text) → IsVerdict inputs (verified inputs text) (Err (not_read why))
unfolding verified
unread-verdict inputs text Version is = ap (record_by inputs) is
unread-verdict inputs text (BadLine n) is = ap (record_by inputs) is
unread-verdict inputs text Truncated is = ap (record_by inputs) is
unread-verdict inputs text NoRoom is = tt

-- The ending without a record.
pub denied-ends : (names : VerifyNames) (before after : Outside) (status : ℕ) (found : Option Record) (inputs : Inputs) (text : List ℕ) (why : RecordErr) →
    AreInputsOf names.inputs before inputs → CanBeNamed inputs → IsTextHeld names before text → IsVerdict inputs (verified inputs text) (Err why) →
    ExplainsRecordErr names.transcript why before.held after.held before.sink_faults after.sink_faults status →
    found ≡ None → after.files ≡ before.files → VerifyEnds names before after status found
denied-ends names before after status found inputs text (Fault fault) are can held is e none files = NotSound inputs text fault are can held is e.0 none e.1 files
denied-ends names before after status found inputs text NoMemory are can held is e none files =
    VerifyOutOfMemory (record { status_is = e.0; found_is = none; line = e.1; files = files })
