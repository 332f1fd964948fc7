-- The record that a transcript shows is the record of the auction that its steps finish.
use Rattle.std.proofs.Common.{◌≡◌, List, None, sum_by, refl, sym, ap, subst, ◌∙◌}
use Rattle.pack_defs.specs.declared.scenario.Scenario.{Scenario}
use Rattle.pack_defs.specs.Book.{BookView}
use Rattle.pack_defs.specs.declared.order.Order.{Order}
use Rattle.auction_core.specs.declared.record.Shown.{Shown}
use Rattle.auction_core.specs.declared.record.Step.{Step}
use Rattle.auction_core.specs.declared.record.Record.{Record}
use Rattle.auction_core.specs.declared.record.Ending.TheVariants.{Done}
use Rattle.auction_core.specs.State.{CoreState}
use Rattle.auction_core.specs.Backed.{after_start, after_steps, ending_of, IsBacked, record_of, shown_start}
use Rattle.auction_core.specs.Rule.{IsAuction}
use Rattle.auction_core.specs.declared.transcript.Transcript.{Transcript}
use Rattle.transcript_text.specs.Spelling.{transcript_for}
use Rattle.auction_core.specs.Checked.{IsAllShown, found_in}
use Rattle.auction_core.specs.NotShown.{not_shown, start_fault}
use Rattle.auction_core.specs.LogNumbers.{steps_in}
use Rattle.transcript_check.specs.Sound.{transcript_record}
use Rattle.transcript_check.proofs.SoundLemmas.{same-again, transcript-order-same, transcript-start-same, transcript-steps-same}
use Rattle.auction_core.proofs.StartFaults.{start-shown}
use Rattle.auction_core.proofs.WalkLemmas.{step_or-parts}

-- The record of this order, this start and these steps.
made : Scenario → Order → Shown → List Step → Record
made sc order start steps =
    let state = after_steps sc (after_start sc order start) steps in
    record { scenario = sc; order = order; ending = Done; start = start; steps = steps; map = state.map; total = sum_by (λ x. x.price) state.clock.frozen }

made-is : (sc : Scenario) (book : BookView) (t : Transcript) → transcript_record sc book t ≡ made sc t.order t.start (steps_in t.steps)
unfolding made
made-is sc book t = refl

same-made : (sc : Scenario) (o p : Order) (a b : Shown) (xs ys : List Step) → o ≡ p → a ≡ b → xs ≡ ys → made sc o a xs ≡ made sc p b ys
same-made sc o p a b xs ys e f g = λ i. made sc (e i) (f i) (g i)

-- The start of a valid transcript is valid.
no-start-fault : (sc : Scenario) (book : BookView) (t : Transcript) → not_shown sc book t ≡ None → start_fault sc book t.start ≡ None
unfolding not_shown
no-start-fault sc book t e = (step_or-parts 0 (start_fault sc book t.start) (found_in sc book t) e).0

-- A backed record of a finished auction with a transcript's order, start and steps is the transcript's record.
pub record-is : (sc : Scenario) (book : BookView) (t : Transcript) (rec : Record) → IsAuction sc book → rec.order ≡ t.order → IsBacked sc book t.order rec → rec.ending ≡ Done → rec.start ≡ t.start → rec.steps ≡ steps_in t.steps
    → rec ≡ transcript_record sc book t
record-is sc book t rec a order b done start steps =
    let own : IsBacked sc book rec.order rec = subst (λ o. IsBacked sc book o rec) (sym order) b in
    let again = transcript_for sc book rec in
    sym (same-again sc book rec a own done)
    ∙ (made-is sc book again ∙ (same-made sc again.order t.order again.start t.start (steps_in again.steps) (steps_in t.steps)
    (transcript-order-same sc book rec ∙ order) (transcript-start-same sc book rec ∙ start) (transcript-steps-same sc book rec ∙ steps)
    ∙ sym (made-is sc book t)))

pub record-same : (sc : Scenario) (book : BookView) (t : Transcript) (rec : Record) (state : CoreState) → IsAuction sc book → rec ≡ record_of sc state → IsBacked sc book state.order rec → IsAllShown sc book t state
    → rec ≡ transcript_record sc book t
record-same sc book t rec state a is b all =
    let start : rec.start ≡ t.start = ap (λ (r : Record). r.start) is ∙ ap shown_start all.start in
    let steps : rec.steps ≡ steps_in t.steps = ap (λ (r : Record). r.steps) is ∙ all.steps in
    let done : rec.ending ≡ Done = b.ending ∙ (ap ending_of start ∙ (start-shown sc book t.start (no-start-fault sc book t all.none)).1) in
    record-is sc book t rec a (b.order_is ∙ all.order) (subst (λ o. IsBacked sc book o rec) all.order b) done start steps
