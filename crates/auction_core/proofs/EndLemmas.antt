-- What the check of a transcript's start and steps reports. For `check_sequence`.
use Rattle.std.proofs.Common.{◌≡◌, ℕ, ◌+◌, Bool, true, false, if◌then◌else◌, List, [], length, Option, Some, None, option_map, refl, sym, ap, ap₂, subst, ◌∙◌, inl, inr}
use Rattle.std.proofs.lemmas.List.{length-map}
use Rattle.pack_defs.specs.declared.scenario.Scenario.{Scenario}
use Rattle.pack_defs.specs.Book.{BookView}
use Rattle.pack_defs.specs.declared.order.Order.{Order}
use Rattle.pack_defs.specs.ClockRule.{clock_tests}
use Rattle.cert_types.specs.declared.answer.Place.{Place}
use Rattle.auction_core.specs.declared.record.Shown.{Shown}
use Rattle.auction_core.specs.State.{CoreState, has_ended}
use Rattle.auction_core.specs.Backed.{after_start}
use Rattle.auction_core.specs.declared.transcript.Transcript.{Transcript}
use Rattle.auction_core.specs.declared.transcript.TranscriptStep.{TranscriptStep}
use Rattle.auction_core.specs.declared.prefix.ShownWhy.{ShownWhy}
use Rattle.auction_core.specs.declared.prefix.ShownWhy.TheVariants.{NotValid}
use Rattle.auction_core.specs.declared.prefix.ShownWhy.TheVariants as Why
use Rattle.auction_core.specs.declared.prefix.ResumeErr.{ResumeErr}
use Rattle.auction_core.specs.declared.prefix.ResumeErr.TheVariants as resume
use Rattle.auction_core.specs.Checked.{FinishFault, IsAllShown, IsAt, found_in}
use Rattle.auction_core.specs.NotShown.{NotShown, Explains, not_shown, not_shown_at, start_fault, started_fault, step_fault_or, steps_fault, within_steps}
use Rattle.auction_core.specs.LogNumbers.{steps_in}
use Rattle.auction_core.proofs.CheckSequenceLemmas.{end-checked}
use Rattle.auction_core.proofs.CheckLemmas.{explain}
use Rattle.auction_core.proofs.KeptLemmas.{end-within}

pub found-is : (sc : Scenario) (book : BookView) (t : Transcript) → start_fault sc book t.start ≡ None → not_shown sc book t ≡ found_in sc book t
unfolding not_shown
found-is sc book t e = ap (λ (o : Option Place). step_fault_or 0 o (found_in sc book t)) e

no-fault : (why : ShownWhy) → None ≡ Some why → ⊥
no-fault why e = cc

why-is : (a b : ShownWhy) → Some a ≡ Some b → a ≡ b
why-is a b e = cc

-- the start is invalid
pub start-err : (sc : Scenario) (book : BookView) (t : Transcript) (r : ResumeErr) → Explains r (option_map (λ why. record { step = 0; why = why }) (option_map NotValid (start_fault sc book t.start))) → Explains r (not_shown sc book t)
unfolding not_shown
start-err sc book t r h = explain r (option_map NotValid (start_fault sc book t.start)) 0 (not_shown sc book t) h (go (start_fault sc book t.start))
  where
    go : (o : Option Place) → (why : ShownWhy) → option_map NotValid o ≡ Some why → step_fault_or 0 o (found_in sc book t) ≡ not_shown_at 0 why
    go None why e = absurd (no-fault why e)
    go (Some place) why e = ap (not_shown_at 0) (why-is (NotValid place) why e)

pub steps-err : (sc : Scenario) (book : BookView) (t : Transcript) (r : ResumeErr) → start_fault sc book t.start ≡ None → Explains r (found_in sc book t) → Explains r (not_shown sc book t)
steps-err sc book t r e h = subst (Explains r) (sym (found-is sc book t e)) h

same-count : (t : Transcript) → length (steps_in t.steps) ≡ length t.steps
same-count t = length-map t.steps (λ (x : TranscriptStep). x.step)

-- a step is missing
pub end-err : (sc : Scenario) (book : BookView) (t : Transcript) (state : CoreState) (r : ResumeErr) → start_fault sc book t.start ≡ None → IsAt sc book t.order t.start (steps_in t.steps) [] (found_in sc book t) state
    → FinishFault r state (length t.steps) → Explains r (not_shown sc book t)
end-err sc book t state resume.NoMemory e a h = tt
end-err sc book t state (resume.NotShown step why) e a h =
    let c = end-checked sc book t.order t.start (steps_in t.steps) (found_in sc book t) state a in
    let missing : found_in sc book t ≡ not_shown_at (length (steps_in t.steps) + 1) Why.Order = elim h.2 as (λ _. found_in sc book t ≡ not_shown_at (length (steps_in t.steps) + 1) Why.Order) [
      | inl running ↦ c.running running
      | inr other ↦ c.missing (λ (same : length state.steps ≡ length (steps_in t.steps)). other (same ∙ same-count t))
    ] in
    found-is sc book t e ∙ (missing ∙ (ap (λ (k : ℕ). not_shown_at (k + 1) Why.Order) (same-count t) ∙ ap₂ not_shown_at (sym h.0) (sym h.1)))

pub all-shown : (sc : Scenario) (book : BookView) (t : Transcript) (state : CoreState) → start_fault sc book t.start ≡ None → IsAt sc book t.order t.start (steps_in t.steps) [] (found_in sc book t) state
    → has_ended state ≡ true → length state.steps ≡ length t.steps → IsAllShown sc book t state
all-shown sc book t state e a ended count =
    let c = (end-checked sc book t.order t.start (steps_in t.steps) (found_in sc book t) state a).all ended (count ∙ sym (same-count t)) in
    record { ended = ended; none = found-is sc book t e ∙ c.0; steps = c.1; start = c.2; order = c.3 }

-- ---- the same for an equal scenario and book

pub fault-at : (sc sc' : Scenario) (book book' : BookView) (start : Shown) → sc' ≡ sc → book' ≡ book → start_fault sc' book' start ≡ None → start_fault sc book start ≡ None
fault-at sc sc' book book' start es eb e = ap₂ (λ s b. start_fault s b start) (sym es) (sym eb) ∙ e

pub start-err-at : (sc sc' : Scenario) (book book' : BookView) (t : Transcript) (r : ResumeErr) → sc' ≡ sc → book' ≡ book → Explains r (option_map (λ why. record { step = 0; why = why }) (option_map NotValid (start_fault sc' book' t.start)))
    → Explains r (not_shown sc book t)
start-err-at sc sc' book book' t r es eb h =
    start-err sc book t r (subst (λ (o : Option Place). Explains r (option_map (λ why. record { step = 0; why = why }) (option_map NotValid o))) (ap₂ (λ s b. start_fault s b t.start) es eb) h)

pub begun : (sc sc' : Scenario) (book book' : BookView) (order : Order) (t : Transcript) (state : CoreState) → sc' ≡ sc → book' ≡ book → order ≡ t.order
    → ((xs : List TranscriptStep) (found : Option NotShown) → steps_fault sc' book' 1 (after_start sc' order t.start) (clock_tests sc' order) xs ≡ found → IsAt sc' book' order t.start [] xs found state)
    → IsAt sc book t.order t.start [] t.steps (found_in sc book t) state
begun sc sc' book book' order t state es eb eo h =
    subst (λ s. IsAt s book t.order t.start [] t.steps (found_in s book t) state) es
    (subst (λ b. IsAt sc' b t.order t.start [] t.steps (found_in sc' b t) state) eb
    (subst (λ (o : Order). IsAt sc' book' o t.start [] t.steps (steps_fault sc' book' 1 (after_start sc' o t.start) (clock_tests sc' o) t.steps) state) eo
    (h t.steps (steps_fault sc' book' 1 (after_start sc' order t.start) (clock_tests sc' order) t.steps) refl)))

pub steps-err-at : (sc sc' : Scenario) (book book' : BookView) (t : Transcript) (items : List TranscriptStep) (state : CoreState) (r : ResumeErr) → sc' ≡ sc → book' ≡ book → items ≡ t.steps → start_fault sc book t.start ≡ None
    → IsAt sc book t.order t.start [] t.steps (found_in sc book t) state → ((order : Order) (start : Shown) (found : Option NotShown) → IsAt sc' book' order start [] items found state → Explains r found)
    → Explains r (not_shown sc book t)
steps-err-at sc sc' book book' t items state r es eb ei e h f =
    steps-err sc book t r e (f t.order t.start (found_in sc book t)
    (subst (λ s. IsAt s book' t.order t.start [] items (found_in sc book t) state) (sym es)
    (subst (λ b. IsAt sc b t.order t.start [] items (found_in sc book t) state) (sym eb)
    (subst (λ (xs : List TranscriptStep). IsAt sc book t.order t.start [] xs (found_in sc book t) state) (sym ei) h))))

pub ended-at : (sc sc' : Scenario) (book book' : BookView) (t : Transcript) (items : List TranscriptStep) (state new : CoreState) → sc' ≡ sc → book' ≡ book → items ≡ t.steps
    → IsAt sc book t.order t.start [] t.steps (found_in sc book t) state → ((order : Order) (start : Shown) (found : Option NotShown) → IsAt sc' book' order start [] items found state → IsAt sc' book' order start (steps_in items) [] found new)
    → IsAt sc book t.order t.start (steps_in t.steps) [] (found_in sc book t) new
ended-at sc sc' book book' t items state new es eb ei h f =
    subst (λ s. IsAt s book t.order t.start (steps_in t.steps) [] (found_in sc book t) new) es
    (subst (λ b. IsAt sc' b t.order t.start (steps_in t.steps) [] (found_in sc book t) new) eb
    (subst (λ (xs : List TranscriptStep). IsAt sc' book' t.order t.start (steps_in xs) [] (found_in sc book t) new) ei
    (f t.order t.start (found_in sc book t)
    (subst (λ s. IsAt s book' t.order t.start [] items (found_in sc book t) state) (sym es)
    (subst (λ b. IsAt sc b t.order t.start [] items (found_in sc book t) state) (sym eb)
    (subst (λ (xs : List TranscriptStep). IsAt sc book t.order t.start [] xs (found_in sc book t) state) (sym ei) h))))))

pub end-err-at : (sc : Scenario) (book : BookView) (t : Transcript) (state : CoreState) (count : ℕ) (r : ResumeErr) → start_fault sc book t.start ≡ None → IsAt sc book t.order t.start (steps_in t.steps) [] (found_in sc book t) state
    → FinishFault r state count → count ≡ length t.steps → Explains r (not_shown sc book t)
end-err-at sc book t state count r e a h n = end-err sc book t state r e a (subst (FinishFault r state) n h)

-- ---- steps without an end

pub started-none : (sc : Scenario) (book : BookView) (ended : Bool) (t : Transcript) (state : CoreState) → ended ≡ false → start_fault sc book t.start ≡ None → IsAt sc book t.order t.start (steps_in t.steps) [] (found_in sc book t) state → started_fault sc book ended t ≡ None
started-none sc book ended t state e none a =
    ap (λ (b : Bool). if b then not_shown sc book t else within_steps (length t.steps) (not_shown sc book t)) e
    ∙ (ap (within_steps (length t.steps)) (found-is sc book t none) ∙ (ap (λ (n : ℕ). within_steps n (found_in sc book t)) (sym (same-count t)) ∙ end-within sc book t.order t.start (steps_in t.steps) (found_in sc book t) state a))
