-- A transcript is sound exactly if no step is the first one that is not shown.
use Rattle.std.proofs.Common.{◌≡◌, List, [], ◌∷◌, map, None, sum_by, refl, sym, ap, subst, ◌∙◌}
use Rattle.pack_defs.specs.declared.scenario.Scenario.{Scenario}
use Rattle.pack_defs.specs.Book.{BookView}
use Rattle.pack_defs.specs.declared.order.Order.{Order}
use Rattle.pack_defs.specs.ClockRule.{ClockState, ClockTest, FrozenAt, clock_tests, opening_state, after_answer, after_tests, asked_from, clock_rule, asked_tests}
use Rattle.pack_defs.proofs.TestOrder.{TestsApart, clock_apart}
use Rattle.auction_core.specs.declared.record.Step.{Step}
use Rattle.auction_core.specs.declared.record.Record.{Record}
use Rattle.auction_core.specs.declared.record.Ending.TheVariants.{Done}
use Rattle.auction_core.specs.State.{CoreState, settled, shows_room, test_of}
use Rattle.auction_core.specs.Backed.{undecided_of, AreShown, after_start, after_steps, ending_of, IsCompleted, IsEnded, IsBacked}
use Rattle.auction_core.specs.Rule.{IsAuction}
use Rattle.auction_core.specs.ClockProgress.{IsClockProgress}
use Rattle.auction_core.proofs.Sets.{fits-stand-first}
use Rattle.auction_core.proofs.Starts.{start-map}
use Rattle.auction_core.proofs.Steps.{after_steps-steps}
use Rattle.auction_core.proofs.Done.{AreListed, asked-apart, listed-shown, done-room}
use Rattle.auction_core.specs.declared.transcript.Transcript.{Transcript}
use Rattle.transcript_text.specs.Spelling.{transcript_steps, transcript_for}
use Rattle.auction_core.specs.NotShown.{start_fault, steps_fault, not_shown}
use Rattle.auction_core.specs.LogNumbers.{steps_in, AreNumbered}
use Rattle.transcript_check.specs.Sound.{transcript_record, IsSound}
use Rattle.auction_core.proofs.WalkLemmas.{step_or-parts, followed, ruled}
use Rattle.auction_core.proofs.StartFaults.{start-shown, start-none, start-walk, after_steps-order}

-- ---- the complete transcript

carried : (sc : Scenario) (book : BookView) (t : Transcript) → IsClockProgress sc book t.start (after_steps sc (after_start sc t.order t.start) (steps_in t.steps)) (clock_tests sc t.order) → IsCompleted sc book t.order (transcript_record sc book t)
unfolding clock_rule asked_tests
carried sc book t w =
    let first : CoreState = after_start sc t.order t.start in
    let last : CoreState = after_steps sc first (steps_in t.steps) in
    let e : last.steps ≡ steps_in t.steps = after_steps-steps sc first (steps_in t.steps) in
    let o : last.order ≡ t.order = after_steps-order sc first (steps_in t.steps) in
    record {
      tests = subst (λ (xs : List Step). map test_of xs ≡ asked_from sc book (undecided_of xs) (clock_tests sc t.order) (opening_state sc)) e w.tests;
      shown = subst (λ (d : Order). AreShown sc book (after_start sc d t.start) (steps_in t.steps)) o (subst (λ (xs : List Step). AreShown sc book (after_start sc last.order t.start) xs) e w.shown);
      map = refl;
      total = ap (λ c. sum_by (λ (x : FrozenAt). x.price) c.frozen) (w.clock ∙ ap (λ (xs : List Step). after_tests sc book (undecided_of xs) (clock_tests sc t.order) (opening_state sc)) e);
    }

pub shown-sound : (sc : Scenario) (book : BookView) (t : Transcript) → IsAuction sc book → not_shown sc book t ≡ None → IsSound sc book t
unfolding not_shown
shown-sound sc book t a e =
    let parts = step_or-parts 0 (start_fault sc book t.start) (steps_fault sc book 1 (after_start sc t.order t.start) (clock_tests sc t.order) t.steps) e in
    let start = start-shown sc book t.start parts.0 in
    let f = followed sc book t.start 1 (after_start sc t.order t.start) [] (clock_tests sc t.order) t.steps a (start-walk sc book t.order t.start a start.0 (done-room t.start start.1)) refl parts.1 in
    record {
      backed = record { scenario = refl; order_is = refl; start = start.0; ending = sym start.1; rest = carried sc book t f.progress };
      numbered = f.numbered;
    }

pub sound-shown : (sc : Scenario) (book : BookView) (t : Transcript) → IsAuction sc book → IsSound sc book t → not_shown sc book t ≡ None
unfolding not_shown clock_rule asked_tests
sound-shown sc book t a h =
    let b : IsBacked sc book t.order (transcript_record sc book t) = h.backed in
    let c : IsCompleted sc book t.order (transcript_record sc book t) = b.rest in
    let U : List ClockTest = undecided_of (steps_in t.steps) in
    let ending : ending_of t.start ≡ Done = sym b.ending in
    let apart : TestsApart (map test_of (steps_in t.steps)) = subst TestsApart (sym c.tests) (asked-apart sc book U (clock_tests sc t.order) (opening_state sc) (clock_apart sc t.order a.stations)) in
    rw (start-none sc book t.start b.start ending)
    (ruled sc book U (clock_tests sc t.order) [] 1 (after_start sc t.order t.start) t.steps a refl (start-map sc book t.start a b.start (done-room t.start ending)) (fits-stand-first sc book (after_start sc t.order t.start) refl refl) c.tests c.shown h.numbered (listed-shown (steps_in t.steps) apart))

-- ---- the transcript of a record

same-steps : (sc : Scenario) (book : BookView) (clock : ClockState) (xs : List Step) → steps_in (transcript_steps sc book clock xs) ≡ xs
same-steps sc book clock [] = refl
same-steps sc book clock (x ∷ xs) = ap (λ (r : List Step). x ∷ r) (same-steps sc book (after_answer sc clock (test_of x) (shows_room x.shown)) xs)

numbered : (sc : Scenario) (book : BookView) (state : CoreState) (xs : List Step) → AreNumbered sc book state (transcript_steps sc book state.clock xs)
numbered sc book state [] = tt
numbered sc book state (x ∷ xs) = (refl, numbered sc book (settled sc state (test_of x) x.shown) xs)

-- Two records are equal if their parts are.
pub same-record : (a b : Record) → a.scenario ≡ b.scenario → a.order ≡ b.order → a.ending ≡ b.ending → a.start ≡ b.start → a.steps ≡ b.steps → a.map ≡ b.map → a.total ≡ b.total → a ≡ b
same-record a b p o q r s m n = λ i. record { scenario = p i; order = o i; ending = q i; start = r i; steps = s i; map = m i; total = n i }

-- The steps of a backed record of a finished auction are valid, in any list that has them as a transcript's steps.
rule-walked : (sc : Scenario) (book : BookView) (rec : Record) → IsAuction sc book → IsBacked sc book rec.order rec → rec.ending ≡ Done
    → IsClockProgress sc book rec.start (after_steps sc (after_start sc rec.order rec.start) rec.steps) (clock_tests sc rec.order)
unfolding clock_rule asked_tests
rule-walked sc book rec a b done =
    let c : IsCompleted sc book rec.order rec = subst (IsEnded sc book rec.order rec) done b.rest in
    let U : List ClockTest = undecided_of rec.steps in
    let ending : ending_of rec.start ≡ Done = sym b.ending ∙ done in
    let room = done-room rec.start ending in
    let apart : TestsApart (map test_of rec.steps) = subst TestsApart (sym c.tests) (asked-apart sc book U (clock_tests sc rec.order) (opening_state sc) (clock_apart sc rec.order a.stations)) in
    let xs = transcript_steps sc book (opening_state sc) rec.steps in
    let e : steps_in xs ≡ rec.steps = same-steps sc book (opening_state sc) rec.steps in
    let none = ruled sc book U (clock_tests sc rec.order) [] 1 (after_start sc rec.order rec.start) xs a refl (start-map sc book rec.start a b.start room) (fits-stand-first sc book (after_start sc rec.order rec.start) refl refl)
    (ap (map test_of) e ∙ c.tests) (subst (AreShown sc book (after_start sc rec.order rec.start)) (sym e) c.shown) (numbered sc book (after_start sc rec.order rec.start) rec.steps)
    (subst (AreListed U) (sym e) (listed-shown rec.steps apart)) in
    let f = followed sc book rec.start 1 (after_start sc rec.order rec.start) [] (clock_tests sc rec.order) xs a (start-walk sc book rec.order rec.start a b.start room) refl none in
    subst (λ (ys : List Step). IsClockProgress sc book rec.start (after_steps sc (after_start sc rec.order rec.start) ys) (clock_tests sc rec.order)) e f.progress

pub same-again : (sc : Scenario) (book : BookView) (rec : Record) → IsAuction sc book → IsBacked sc book rec.order rec → rec.ending ≡ Done → transcript_record sc book (transcript_for sc book rec) ≡ rec
unfolding transcript_for clock_rule asked_tests
same-again sc book rec a b done =
    let c : IsCompleted sc book rec.order rec = subst (IsEnded sc book rec.order rec) done b.rest in
    let start = after_start sc rec.order rec.start in
    let e : steps_in (transcript_steps sc book (opening_state sc) rec.steps) ≡ rec.steps = same-steps sc book (opening_state sc) rec.steps in
    let w = rule-walked sc book rec a b done in
    let own : (after_steps sc start rec.steps).steps ≡ rec.steps = after_steps-steps sc start rec.steps in
    let clock : (after_steps sc start rec.steps).clock ≡ after_tests sc book (undecided_of rec.steps) (clock_tests sc rec.order) (opening_state sc) =
    w.clock ∙ ap (λ (xs : List Step). after_tests sc book (undecided_of xs) (clock_tests sc rec.order) (opening_state sc)) own in
    same-record (transcript_record sc book (transcript_for sc book rec)) rec (sym b.scenario) refl (sym done) refl e
    (ap (λ (xs : List Step). (after_steps sc start xs).map) e ∙ sym c.map)
    (ap (λ (xs : List Step). sum_by (λ (x : FrozenAt). x.price) (after_steps sc start xs).clock.frozen) e
    ∙ (ap (λ z. sum_by (λ (x : FrozenAt). x.price) z.frozen) clock ∙ sym c.total))

pub transcript-sound : (sc : Scenario) (book : BookView) (rec : Record) → IsAuction sc book → IsBacked sc book rec.order rec → rec.ending ≡ Done → IsSound sc book (transcript_for sc book rec)
unfolding transcript_for
transcript-sound sc book rec a b done = record {
  backed = subst (IsBacked sc book rec.order) (sym (same-again sc book rec a b done)) b;
  numbered = numbered sc book (after_start sc rec.order rec.start) rec.steps;
}

-- The steps and the start of the transcript are the record's.
pub transcript-steps-same : (sc : Scenario) (book : BookView) (rec : Record) → steps_in (transcript_for sc book rec).steps ≡ rec.steps
unfolding transcript_for
transcript-steps-same sc book rec = same-steps sc book (opening_state sc) rec.steps

pub transcript-start-same : (sc : Scenario) (book : BookView) (rec : Record) → (transcript_for sc book rec).start ≡ rec.start
unfolding transcript_for
transcript-start-same sc book rec = refl

pub transcript-order-same : (sc : Scenario) (book : BookView) (rec : Record) → (transcript_for sc book rec).order ≡ rec.order
unfolding transcript_for
transcript-order-same sc book rec = refl
