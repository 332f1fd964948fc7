-- The first error of a cut transcript is that of the complete one, if it is among the steps that are kept.
use Rattle.std.proofs.Common.{◌≡◌, ◌<◌, ◌≤◌, ◌∙◌, ℕ, Bool, true, false, List, ◌++◌, length, take, Some, None, Result, Ok, Err, refl, ap, arith}
use Rattle.std.specs.Prelude.{MatchResult}
use Rattle.std.proofs.lemmas.List.{length-take}
use Rattle.pack_defs.specs.declared.scenario.Scenario.{Scenario}
use Rattle.pack_defs.specs.declared.order.Order.{Order}
use Rattle.pack_defs.specs.Book.{BookView}
use Rattle.auction_core.specs.declared.prefix.Prefix.{Prefix}
use Rattle.auction_core.specs.declared.record.Shown.{Shown}
use Rattle.auction_core.specs.declared.transcript.Transcript.{Transcript}
use Rattle.auction_core.specs.declared.transcript.TranscriptStep.{TranscriptStep}
use Rattle.auction_core.specs.NotShown.{NotShown, first_steps, not_kept, not_shown}
use Rattle.auction_core.proofs.FirstSteps.{cut-before, cut-there-too}
use Rattle.transcript_text.specs.declared.error.TextErr.{TextErr}
use Rattle.transcript_text.specs.PrefixReading.{IsPrefixOf, empty_prefix, order_prefix, prefix_of, transcript_prefix}
use Rattle.transcript_text.specs.Reading.{transcript_of}
use Rattle.transcript_text.proofs.PrefixLaws.{prefix-first}
use Rattle.transcript_check.proofs.PrefixLemmas.{So, nothing-clean, order-clean, prefix-cases, same-transcript}

abbrev All : (Prefix → Type 0) → Result Prefix TextErr → Type 0
All P r = MatchResult r P (λ why. ⊥)

both : (P : Prefix → Type 0) (t : Transcript) (r : Result Prefix TextErr) → All (λ kept. IsPrefixOf kept t) r → So (λ kept. IsPrefixOf kept t → P kept) r → All P r
both P t (Ok kept) h so = so h
both P t (Err e) h so = h

-- What holds of each beginning of the transcript holds of what is kept of a cut text.
any-cut : (P : Prefix → Type 0) (sc : Scenario) (book : BookView) (before after : List ℕ) (t : Transcript) → transcript_of sc book (before ++ after) ≡ Ok t
    → P empty_prefix → ((order : Order) → P (order_prefix order)) → ((own : Transcript) (ended : Bool) → IsPrefixOf (transcript_prefix own ended) t → P (transcript_prefix own ended))
    → All P (prefix_of sc book before)
any-cut P sc book before after t e none ordered there =
    both P t (prefix_of sc book before) (prefix-first sc book before after t e)
    (prefix-cases (λ kept. IsPrefixOf kept t → P kept) sc book before (λ h. none) (λ order h. ordered order) there)

-- What is kept without the `end` line is the transcript's first steps.
same-kept : (sc : Scenario) (book : BookView) (own t : Transcript) → IsPrefixOf (transcript_prefix own false) t → not_kept sc book (transcript_prefix own false) ≡ not_kept sc book (first_steps (length own.steps) t)
same-kept sc book own t h =
    let part : Transcript = record { order = t.order; start = t.start; steps = take (length own.steps) t.steps } in
    ap (λ (x : Transcript). not_kept sc book (transcript_prefix x false)) (same-transcript own part h.order h.start h.steps)

no-more : (own t : Transcript) → IsPrefixOf (transcript_prefix own false) t → length own.steps ≤ length t.steps
no-more own t h =
    let same : length own.steps ≡ length (take (length own.steps) t.steps) = ap (λ (xs : List TranscriptStep). length xs) h.steps in
    omega (arith, same, length-take (length own.steps) t.steps)

-- ---- a cut before the error

abbrev IsClean : Scenario → BookView → NotShown → Prefix → Type 0
IsClean sc book error kept = kept.ended ≡ false → length kept.steps < error.step → not_kept sc book kept ≡ None

clean-there : (sc : Scenario) (book : BookView) (t own : Transcript) (error : NotShown) (ended : Bool) → not_shown sc book t ≡ Some error → IsPrefixOf (transcript_prefix own ended) t → IsClean sc book error (transcript_prefix own ended)
clean-there sc book t own error true e h = λ cut. absurd cc cut
clean-there sc book t own error false e h = λ cut less. same-kept sc book own t h ∙ cut-before sc book t (length own.steps) error e less

pub cut-clean : (sc : Scenario) (book : BookView) (before after : List ℕ) (t : Transcript) (error : NotShown) → transcript_of sc book (before ++ after) ≡ Ok t → not_shown sc book t ≡ Some error
    → MatchResult (prefix_of sc book before) (λ kept. kept.ended ≡ false → length kept.steps < error.step → not_kept sc book kept ≡ None) (λ why. ⊥)
cut-clean sc book before after t error read e =
    any-cut (IsClean sc book error) sc book before after t read (λ cut less. nothing-clean sc book) (λ order cut less. order-clean sc book order) (λ own ended h. clean-there sc book t own error ended e h)

-- ---- a cut after the error

abbrev HasError : Scenario → BookView → Transcript → NotShown → Prefix → Type 0
HasError sc book t error kept = kept.start ≡ Some t.start → error.step ≤ length kept.steps → not_kept sc book kept ≡ Some error

error-there : (sc : Scenario) (book : BookView) (t own : Transcript) (error : NotShown) (ended : Bool) → not_shown sc book t ≡ Some error → IsPrefixOf (transcript_prefix own ended) t → HasError sc book t error (transcript_prefix own ended)
unfolding not_kept
error-there sc book t own error true e h = λ started le.
    ap (not_shown sc book) (same-transcript own t h.order h.start (ap (λ (p : Prefix). p.steps) (h.all refl))) ∙ e
error-there sc book t own error false e h = λ started le. same-kept sc book own t h ∙ cut-there-too sc book t (length own.steps) error e le (no-more own t h)

none-some : (start : Shown) → None ≡ Some start → ⊥
none-some start e = cc

pub cut-error : (sc : Scenario) (book : BookView) (before after : List ℕ) (t : Transcript) (error : NotShown) → transcript_of sc book (before ++ after) ≡ Ok t → not_shown sc book t ≡ Some error
    → MatchResult (prefix_of sc book before) (λ kept. kept.start ≡ Some t.start → error.step ≤ length kept.steps → not_kept sc book kept ≡ Some error) (λ why. ⊥)
cut-error sc book before after t error read e =
    any-cut (HasError sc book t error) sc book before after t read (λ started le. absurd (none-some t.start started)) (λ order started le. absurd (none-some t.start started)) (λ own ended h. error-there sc book t own error ended e h)
