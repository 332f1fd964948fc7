-- For `resume`: what is kept of the beginnings of a sound transcript and of the complete one, and the record that continues the
-- latter.
use Rattle.std.proofs.Common.{◌≡◌, ◌<◌, ◌∙◌, ◌++◌, ◌^◌, ℕ, true, List, [], length, refl, sym, ap, subst, arith, append-nil, Option, Some, None}
use Rattle.std.specs.Prelude.{Ok, Err, MatchResult, Result}
use Rattle.outside_io.specs.Files.{StoredFile}
use Rattle.auction_core.specs.declared.prefix.Prefix.{Prefix}
use Rattle.auction_core.specs.declared.record.Record.{Record}
use Rattle.auction_core.specs.declared.record.Shown.{Shown}
use Rattle.auction_core.specs.declared.transcript.Transcript.{Transcript}
use Rattle.auction_core.specs.NotShown.{NotShown, not_kept, not_shown}
use Rattle.auction_core.specs.Rule.{IsAuction}
use Rattle.auction_core.proofs.StartShown.{done-fits}
use Rattle.transcript_text.specs.declared.error.TextErr.{TextErr}
use Rattle.transcript_text.specs.PrefixReading.{prefix_of, transcript_prefix}
use Rattle.transcript_text.specs.Reading.{transcript_of}
use Rattle.transcript_text.specs.Spelling.{transcript_text}
use Rattle.transcript_text.proofs.PrefixLaws.{prefix-all}
use Rattle.transcript_check.specs.Sound.{transcript_record}
use Rattle.transcript_check.proofs.PrefixLemmas.{any-beginning}
use Rattle.transcript_check.proofs.SoundLemmas.{shown-sound}
use Rattle.transcript_check.proofs.WholeLemmas.{none-other, same-text}
use Rattle.commands.specs.declared.inputs.Inputs.{Inputs}
use Rattle.commands.specs.Inputs.{inputs_of}
use Rattle.commands.specs.Records.{IsRecordIn, StartFits}
use Rattle.commands.specs.Resume.{ContinuesFrom, begun, kept_prefix, kept_or}
use Rattle.commands.specs.Verified.{CanBeNamed, record_by, shown_or, verified}
use Rattle.command_words.specs.Words.{InputNames}
use Rattle.commands.proofs.RoundTripLemmas.{accepted-auction}
use Rattle.commands.proofs.ReadingLemmas.{accepted-limits}

-- ---- what is verified

-- the transcript of a text that is verified
pub record IsOfText (inputs : Inputs) (text : List ℕ) (rec : Record) : Type 0 where
  pub transcript : Transcript
  pub read : transcript_of inputs.scenario inputs.book text ≡ Ok transcript
  pub shown : not_shown inputs.scenario inputs.book transcript ≡ None
  pub same : transcript_record inputs.scenario inputs.book transcript ≡ rec

none-first : (o : Option NotShown) (own rec : Record) → shown_or o own ≡ Ok rec → (o ≡ None) × (own ≡ rec)
none-first None own rec e = (refl, cc)
none-first (Some first) own rec e = cc

of-read : (inputs : Inputs) (text : List ℕ) (r : Result Transcript TextErr) (rec : Record) → transcript_of inputs.scenario inputs.book text ≡ r → record_by inputs r ≡ Ok rec → IsOfText inputs text rec
of-read inputs text (Ok t) rec is e =
    let both = none-first (not_shown inputs.scenario inputs.book t) (transcript_record inputs.scenario inputs.book t) rec e in
    record { transcript = t; read = is; shown = both.0; same = both.1 }
of-read inputs text (Err why) rec is e = cc

pub of-text : (inputs : Inputs) (text : List ℕ) (rec : Record) → verified inputs text ≡ Ok rec → IsOfText inputs text rec
unfolding verified
of-text inputs text rec e = of-read inputs text (transcript_of inputs.scenario inputs.book text) rec refl e

-- the start set of a sound transcript's auction fits
pub verified-fits : (files : List StoredFile) (names : InputNames) (inputs : Inputs) (text : List ℕ) (rec : Record) → inputs_of files names ≡ Ok inputs → CanBeNamed inputs → verified inputs text ≡ Ok rec → StartFits inputs
verified-fits files names inputs text rec is can e =
    let of = of-text inputs text rec e in
    let auction : IsAuction inputs.scenario inputs.book = accepted-auction files names inputs is can in
    let sound = shown-sound inputs.scenario inputs.book of.transcript auction of.shown in
    done-fits inputs.scenario inputs.book of.transcript.order (transcript_record inputs.scenario inputs.book of.transcript) auction sound.backed refl

-- ---- what is kept

-- what was read and has no fault is continued
unfaulty : (inputs : Inputs) (r : Result Prefix TextErr) → MatchResult r (λ kept. not_kept inputs.scenario inputs.book kept ≡ None) (λ why. ⊥) → (kept : Prefix) × (kept_prefix inputs r ≡ Ok kept)
unfaulty inputs (Ok kept) none = (kept, ap (λ o. kept_or o kept) none)
unfaulty inputs (Err why) none = absurd none

-- the beginning of any sound transcript
pub cut-begun : (inputs : Inputs) (text behind : List ℕ) (rec : Record) → verified inputs (text ++ behind) ≡ Ok rec → (kept : Prefix) × (begun inputs text ≡ Ok kept)
unfolding begun
cut-begun inputs text behind rec e =
    let of = of-text inputs (text ++ behind) rec e in
    unfaulty inputs (prefix_of inputs.scenario inputs.book text) (any-beginning inputs.scenario inputs.book text behind of.transcript of.read of.shown)

-- what is kept is what was read
kept-same : (o : Option NotShown) (own kept : Prefix) → kept_or o own ≡ Ok kept → own ≡ kept
kept-same None own kept e = cc
kept-same (Some first) own kept e = cc

no-start : {X : Type 0} (shown : Shown) → Some shown ≡ None → X
no-start shown e = cc

-- all of a complete transcript is kept
whole-kept : (inputs : Inputs) (text : List ℕ) (t : Transcript) (kept : Prefix) → transcript_of inputs.scenario inputs.book text ≡ Ok t → begun inputs text ≡ Ok kept → transcript_prefix t true ≡ kept
unfolding begun
whole-kept inputs text t kept read e =
    let all : kept_prefix inputs (Ok (transcript_prefix t true)) ≡ Ok kept = subst (λ r. kept_prefix inputs r ≡ Ok kept) (prefix-all inputs.scenario inputs.book text t read) e in
    kept-same (not_kept inputs.scenario inputs.book (transcript_prefix t true)) (transcript_prefix t true) kept all

-- hence the auction continues from it, and its start is kept
pub whole-begun : (inputs : Inputs) (text : List ℕ) (rec : Record) → verified inputs text ≡ Ok rec → (kept : Prefix) × (begun inputs text ≡ Ok kept)
whole-begun inputs text rec e = cut-begun inputs text [] rec (subst (λ t. verified inputs t ≡ Ok rec) (sym (append-nil text)) e)

pub whole-started : {X : Type 0} (inputs : Inputs) (text : List ℕ) (rec : Record) (kept : Prefix) → verified inputs text ≡ Ok rec → begun inputs text ≡ Ok kept → kept.start ≡ None → X
whole-started inputs text rec kept e ok none =
    let of = of-text inputs text rec e in
    let same : transcript_prefix of.transcript true ≡ kept = whole-kept inputs text of.transcript kept of.read ok in
    no-start of.transcript.start (ap (λ (p : Prefix). p.start) same ∙ none)

-- a record that continues a complete transcript is the one that the transcript certifies
whole-record : (inputs : Inputs) (t : Transcript) (new : Record) → IsAuction inputs.scenario inputs.book → not_shown inputs.scenario inputs.book t ≡ None → ContinuesFrom (transcript_prefix t true) new → IsRecordIn t.order inputs new → new ≡ transcript_record inputs.scenario inputs.book t
whole-record inputs t new auction none goes of = none-other inputs.scenario inputs.book t new goes.more auction none of.backed of.ending goes.start goes.steps

few : (n : ℕ) → n < 17 → n < 2 ^ 32
few n h = omega arith

-- and its text is the transcript's
pub whole-again : (files : List StoredFile) (names : InputNames) (inputs : Inputs) (text : List ℕ) (rec : Record) (kept : Prefix) (new : Record) → inputs_of files names ≡ Ok inputs → CanBeNamed inputs → verified inputs text ≡ Ok rec → begun inputs text ≡ Ok kept → ContinuesFrom kept new →
    IsRecordIn new.order inputs new → (new ≡ rec) × (transcript_text inputs.scenario inputs.book new ≡ text)
whole-again files names inputs text rec kept new is can e ok goes of =
    let it = of-text inputs text rec e in
    let t = it.transcript in
    let auction : IsAuction inputs.scenario inputs.book = accepted-auction files names inputs is can in
    let limits = accepted-limits files names inputs is in
    let most = limits.workers in
    let whole : ContinuesFrom (transcript_prefix t true) new = subst (λ p. ContinuesFrom p new) (sym (whole-kept inputs text t kept it.read ok)) goes in
    let shown : new ≡ transcript_record inputs.scenario inputs.book t = whole-record inputs t new auction it.shown whole (subst (λ o. IsRecordIn o inputs new) whole.order of) in
    (shown ∙ it.same, ap (transcript_text inputs.scenario inputs.book) shown ∙ same-text inputs.scenario inputs.book text t (few (length inputs.scenario.workers) (omega arith)) it.read it.shown)
