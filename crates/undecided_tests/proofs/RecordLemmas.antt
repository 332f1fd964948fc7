-- A record of which an undecided test is settled by a proof from outside is backed.
use Rattle.std.proofs.Common.{◌≡◌, ℕ, ◌-◌, List, [], map, MatchOption, Option, None, sum_by, refl, sym, ap, subst, ◌∙◌}
use Rattle.std.specs.Prelude.{⊤}
use Rattle.pack_defs.specs.declared.scenario.Scenario.{Scenario}
use Rattle.pack_defs.specs.Book.{BookView}
use Rattle.pack_defs.specs.ClockRule.{ClockState, ClockTest, FrozenAt, asked_tests, clock_rule, clock_tests, opening_state}
use Rattle.pack_defs.proofs.TestOrder.{TestsApart, clock_apart}
use Rattle.cert_types.specs.declared.outside.OutsideProof.{OutsideProof}
use Rattle.auction_core.specs.declared.record.Record.{Record}
use Rattle.auction_core.specs.declared.record.Step.{Step}
use Rattle.auction_core.specs.declared.record.Ending.{Ending}
use Rattle.auction_core.specs.declared.record.Ending.TheVariants.{Done, StartRefuted, StartUndecided}
use Rattle.auction_core.specs.State.{CoreState, test_of}
use Rattle.auction_core.specs.Backed.{IsBacked, IsCompleted, IsEnded, after_start, after_steps, undecided_of}
use Rattle.auction_core.specs.Rule.{IsAuction}
use Rattle.auction_core.proofs.Done.{asked-apart}
use Rattle.result_text.proofs.StepLemmas.{backed-clock, carried-through}
use Rattle.auction_core.specs.declared.transcript.Transcript.{Transcript}
use Rattle.transcript_text.specs.Spelling.{transcript_for, transcript_steps}
use Rattle.auction_core.specs.NotShown.{not_shown, start_fault, step_fault_or, steps_fault}
use Rattle.auction_core.specs.LogNumbers.{steps_in}
use Rattle.transcript_check.specs.Sound.{transcript_record}
use Rattle.transcript_check.proofs.SoundLemmas.{shown-sound, sound-shown, transcript-sound, transcript-steps-same, same-record}
use Rattle.auction_core.proofs.WalkLemmas.{step_or-parts}
use Rattle.undecided_tests.specs.Queries.{state_before, step_numbered}
use Rattle.undecided_tests.specs.Settled.{IsLeftOpen, RefutesStep, settled_by, shown_outside, without_test}
use Rattle.undecided_tests.proofs.AlikeLemmas.{HaveMoved}
use Rattle.undecided_tests.proofs.SettledLemmas.{RefutesAt, left-at, moved-outside, open-at, refutes-at, some-step}
use Rattle.undecided_tests.proofs.ReplacedLemmas.{replaced}

-- A record that has a step is of a finished auction.
done-of : (sc : Scenario) (book : BookView) (rec : Record) (ending : Ending) → IsEnded sc book rec.order rec ending → (rec.steps ≡ [] → ⊥) → ending ≡ Done
done-of sc book rec Done h some = refl
done-of sc book rec StartRefuted h some = absurd (some h.steps)
done-of sc book rec StartUndecided h some = absurd (some h.steps)

has-done : (sc : Scenario) (book : BookView) (rec : Record) (step : ℕ) → IsBacked sc book rec.order rec → IsLeftOpen rec step → rec.ending ≡ Done
has-done sc book rec step b open_ = done-of sc book rec rec.ending b.rest (some-step rec.steps (step - 1) (open-at rec.steps step open_))

-- The state before the first step.
abbrev first : Scenario → Record → CoreState
first sc rec = after_start sc rec.order rec.start

refutes : (sc : Scenario) (book : BookView) (rec : Record) (step : ℕ) (proof : OutsideProof) → IsBacked sc book rec.order rec → RefutesStep book rec step proof → RefutesAt sc book (first sc rec) rec.steps (step - 1) proof
refutes sc book rec step proof b p =
    subst (λ (z : Scenario). RefutesAt z book (first z rec) rec.steps (step - 1) proof) b.scenario
    (refutes-at rec.scenario book (first rec.scenario rec) (state_before rec step) rec.steps step proof refl p)

none-or : (n : ℕ) (o : Option _) (rest : Option _) → o ≡ None → rest ≡ None → step_fault_or n o rest ≡ None
none-or n o rest e f = rw e f

-- The transcript of the new record is valid.
no-fault : (sc : Scenario) (book : BookView) (rec : Record) (step : ℕ) (proof : OutsideProof) → IsAuction sc book → IsBacked sc book rec.order rec → IsLeftOpen rec step → RefutesStep book rec step proof → not_shown sc book (transcript_for sc book (settled_by rec step proof)) ≡ None
unfolding not_shown transcript_for
no-fault sc book rec step proof a b open_ p =
    let t : Transcript = transcript_for sc book rec in
    let none : not_shown sc book t ≡ None = sound-shown sc book t a (transcript-sound sc book rec a b (has-done sc book rec step b open_)) in
    let parts = step_or-parts 0 (start_fault sc book rec.start) (steps_fault sc book 1 (first sc rec) (clock_tests sc rec.order) (transcript_steps sc book (opening_state sc) rec.steps)) none in
    none-or 0 (start_fault sc book rec.start) (steps_fault sc book 1 (first sc rec) (clock_tests sc rec.order) (transcript_steps sc book (opening_state sc) (shown_outside rec.steps (step - 1) proof))) parts.0
    (replaced sc book 1 (first sc rec) (clock_tests sc rec.order) rec.steps (step - 1) proof (open-at rec.steps step open_) (refutes sc book rec step proof b p) parts.1)

-- The record of that transcript is the new record.
same-again : (sc : Scenario) (book : BookView) (rec : Record) (step : ℕ) (proof : OutsideProof) → IsAuction sc book → IsBacked sc book rec.order rec → IsLeftOpen rec step → transcript_record sc book (transcript_for sc book (settled_by rec step proof)) ≡ settled_by rec step proof
unfolding transcript_for
same-again sc book rec step proof a b open_ =
    let done = has-done sc book rec step b open_ in
    let c : IsCompleted sc book rec.order rec = carried-through sc book rec b done in
    let new : Record = settled_by rec step proof in
    let e : steps_in (transcript_steps sc book (opening_state sc) new.steps) ≡ new.steps = transcript-steps-same sc book new in
    let moved : HaveMoved (after_steps sc (first sc rec) rec.steps) (after_steps sc (first sc rec) new.steps) = moved-outside sc (first sc rec) rec.steps (step - 1) proof (open-at rec.steps step open_) in
    let clock : (after_steps sc (first sc rec) new.steps).clock ≡ clock_rule sc book rec.order (undecided_of rec.steps) = sym moved.clock ∙ backed-clock sc book rec a b done in
    same-record (transcript_record sc book (transcript_for sc book new)) new (sym b.scenario) refl (sym done) refl e
    (ap (λ (xs : List Step). (after_steps sc (first sc rec) xs).map) e ∙ (sym moved.map ∙ sym c.map))
    (ap (λ (xs : List Step). sum_by (λ (x : FrozenAt). x.price) (after_steps sc (first sc rec) xs).clock.frozen) e
    ∙ (ap (λ (z : ClockState). sum_by (λ (x : FrozenAt). x.price) z.frozen) clock ∙ sym c.total))

pub settled-backed : (sc : Scenario) (book : BookView) (rec : Record) (step : ℕ) (proof : OutsideProof) → IsAuction sc book → IsBacked sc book rec.order rec → IsLeftOpen rec step → RefutesStep book rec step proof → IsBacked sc book rec.order (settled_by rec step proof)
unfolding transcript_for
settled-backed sc book rec step proof a b open_ p =
    subst (IsBacked sc book rec.order) (same-again sc book rec step proof a b open_)
    (shown-sound sc book (transcript_for sc book (settled_by rec step proof)) a (no-fault sc book rec step proof a b open_ p)).backed

pub settled-left : (sc : Scenario) (book : BookView) (rec : Record) (step : ℕ) (proof : OutsideProof) → IsAuction sc book → IsBacked sc book rec.order rec → IsLeftOpen rec step
    → MatchOption (step_numbered rec.steps step) ⊤ (λ x. undecided_of (settled_by rec step proof).steps ≡ without_test (test_of x) (undecided_of rec.steps))
unfolding asked_tests
settled-left sc book rec step proof a b open_ =
    let c : IsCompleted sc book rec.order rec = carried-through sc book rec b (has-done sc book rec step b open_) in
    let U : List ClockTest = undecided_of rec.steps in
    let apart : TestsApart (map test_of rec.steps) = subst TestsApart (sym c.tests) (asked-apart sc book U (clock_tests sc rec.order) (opening_state sc) (clock_apart sc rec.order a.stations)) in
    left-at rec.steps step proof apart (open-at rec.steps step open_)

pub settled-clock : (sc : Scenario) (book : BookView) (rec : Record) (step : ℕ) (proof : OutsideProof) → IsAuction sc book → IsBacked sc book rec.order rec → IsLeftOpen rec step → RefutesStep book rec step proof
    → clock_rule sc book rec.order (undecided_of (settled_by rec step proof).steps) ≡ clock_rule sc book rec.order (undecided_of rec.steps)
settled-clock sc book rec step proof a b open_ p =
    let done = has-done sc book rec step b open_ in
    let moved : HaveMoved (after_steps sc (first sc rec) rec.steps) (after_steps sc (first sc rec) (settled_by rec step proof).steps) = moved-outside sc (first sc rec) rec.steps (step - 1) proof (open-at rec.steps step open_) in
    sym (backed-clock sc book (settled_by rec step proof) a (settled-backed sc book rec step proof a b open_ p) done) ∙ (sym moved.clock ∙ backed-clock sc book rec a b done)
