-- What follows once a transcript was verified, if nothing outside changed before.
use Rattle.std.proofs.Common.{◌≡◌, ◌⊎◌, ◌∙◌, ℕ, List, inl, inr, subst, sym, Option, Some, None}
use Rattle.auction_core.specs.Backed.{undecided_of}
use Rattle.auction_core.specs.declared.record.Record.{Record}
use Rattle.commands.specs.declared.inputs.Inputs.{Inputs}
use Rattle.commands.specs.Delivery.{Delivers, IsPrinted, NamedText}
use Rattle.commands.specs.Ends.{EndsOutOfMemory, IsShown, VerifyEnds}
use Rattle.commands.specs.Ends.VerifyEnds.{Sound}
use Rattle.commands.specs.Outside.{IsLinePrinted, Outside}
use Rattle.commands.specs.Records.{done_status, result_of}
use Rattle.commands.specs.Views.{Lacks, Tells, ViewAnswer, ViewEnds}
use Rattle.commands.specs.Views.ViewEnds.{Answered, Lacking, Unverified, ViewOutOfMemory}
use Rattle.command_words.specs.Words.{VerifyNames}

-- Its result is printed.
pub sound-printed : (names : VerifyNames) (before between after : Outside) (status : ℕ) (found : Option Record) (inputs : Inputs) (rec : Record) → IsShown names before inputs rec → between ≡ before → found ≡ Some rec
    → IsPrinted (result_of rec.order inputs (undecided_of rec.steps)) (done_status (undecided_of rec.steps)) between after status → VerifyEnds names before after status found
sound-printed names before between after status found inputs rec s same kept p =
    Sound inputs s.text rec s.accepted s.named s.held s.sound s.own kept
    (subst (λ b. IsPrinted (result_of rec.order inputs (undecided_of rec.steps)) (done_status (undecided_of rec.steps)) b after status) same p)

module _ (names : VerifyNames) (says : Inputs → Record → ViewAnswer) where
  -- A view, from the state before the transcript was read.
  pub view-since : (before between after : Outside) (status : ℕ) → between ≡ before → ViewEnds names says between after status → ViewEnds names says before after status
  view-since before between after status same ends = subst (λ (b : Outside). ViewEnds names says b after status) same ends

  -- The transcript was not verified.
  pub unverified : (before after : Outside) (status : ℕ) (found : Option Record) → VerifyEnds names before after status found → found ≡ None → ViewEnds names says before after status
  unverified before after status found ends none = Unverified (subst (λ o. VerifyEnds names before after status o) none ends)

  -- The answer's texts were delivered, or memory ran out before.
  pub answered-ends : (before after : Outside) (status : ℕ) (inputs : Inputs) (rec : Record) (answer : ViewAnswer) (texts : List NamedText) (text : List ℕ) (done : ℕ) → IsShown names before inputs rec
      → answer ≡ says inputs rec → answer ≡ Tells texts text done → EndsOutOfMemory before after status None ⊎ Delivers texts text done before after status → ViewEnds names says before after status
  answered-ends before after status inputs rec answer texts text done shown is tells (inl short) = ViewOutOfMemory short
  answered-ends before after status inputs rec answer texts text done shown is tells (inr delivers) = Answered inputs rec texts text done shown (sym is ∙ tells) delivers

  -- What the words name is lacking.
  pub lack-ends : (before after : Outside) (status : ℕ) (inputs : Inputs) (rec : Record) (answer : ViewAnswer) (line : List ℕ) → IsShown names before inputs rec
      → answer ≡ says inputs rec → answer ≡ Lacks line → status ≡ 10 → IsLinePrinted before after line → after.files ≡ before.files → ViewEnds names says before after status
  lack-ends before after status inputs rec answer line shown is lacks ten said same = Lacking inputs rec line shown (sym is ∙ lacks) ten said same
