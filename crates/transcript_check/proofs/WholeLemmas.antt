-- A complete sound transcript leaves no test to run, and its text is the text of its record.
use Rattle.std.proofs.Common.{◌≡◌, ◌∙◌, ℕ, ◌+◌, ◌<◌, ◌^◌, Bool, true, false, not, cond, ◌&&◌, if◌then◌else◌, List, [], ◌∷◌, ◌++◌, length, map, Contains, None, Ok, refl, sym, ap, subst, arith, append-nil}
use Rattle.std.proofs.lemmas.List.Elements.{Contains-append_left}
use Rattle.pack_defs.specs.declared.scenario.Scenario.{Scenario}
use Rattle.pack_defs.specs.Book.{BookView}
use Rattle.pack_defs.specs.Packing.{fits}
use Rattle.pack_defs.specs.ClockRule.{ClockState, ClockTest, after_answer, after_test, asked_from, asked_set, asked_tests, clock_tests, is_active, is_listed, opening_state}
use Rattle.pack_defs.proofs.Members.{Contains-from_map, Contains-here, Contains-there}
use Rattle.pack_defs.proofs.TestOrder.{TestsApart, clock_apart}
use Rattle.auction_core.specs.declared.record.Record.{Record}
use Rattle.auction_core.specs.declared.record.Step.{Step}
use Rattle.auction_core.specs.declared.record.Ending.TheVariants.{Done}
use Rattle.auction_core.specs.declared.transcript.Transcript.{Transcript}
use Rattle.auction_core.specs.declared.transcript.TranscriptStep.{TranscriptStep}
use Rattle.auction_core.specs.State.{CoreState, settled, test_of}
use Rattle.auction_core.specs.Backed.{IsBacked, IsCompleted, IsEnded, after_start, undecided_of}
use Rattle.auction_core.specs.LogNumbers.{AreNumbered, steps_in}
use Rattle.auction_core.specs.NotShown.{at_test, is_test, next_asked, not_shown, start_fault, step_fault, step_fault_or, steps_fault}
use Rattle.auction_core.specs.Rule.{IsAuction}
use Rattle.auction_core.proofs.Done.{AreListed, asked-apart, listed-shown}
use Rattle.auction_core.proofs.StepLemmas.{step-shown}
use Rattle.auction_core.proofs.WalkLemmas.{step_or-parts}
use Rattle.transcript_text.specs.Reading.{transcript_of}
use Rattle.transcript_text.specs.Spelling.{spelling, transcript_for, transcript_steps, transcript_text}
use Rattle.transcript_text.proofs.TextReadLemmas.{transcript-said}
use Rattle.transcript_check.specs.Sound.{transcript_record}
use Rattle.transcript_check.proofs.PrefixLemmas.{if-none, no-test}
use Rattle.transcript_check.proofs.RecordLemmas.{record-is}
use Rattle.transcript_check.proofs.SoundLemmas.{shown-sound}

-- ---- no test is left to run

-- Two lists that agree on the tests that are asked under one of them ask the same tests.
asked-alike : (sc : Scenario) (book : BookView) (u v ts : List ClockTest) (st : ClockState) → ((t : ClockTest) → Contains (asked_from sc book u ts st) t → is_listed u t ≡ is_listed v t)
    → asked_from sc book u ts st ≡ asked_from sc book v ts st
asked-alike sc book u v [] st h = refl
asked-alike sc book u v (t ∷ ts) st h = go (is_active st t.station) h (λ z g. asked-alike sc book u v ts z g)
  where
    next : ClockState
    next = after_test sc book u st t

    go : (b : Bool) → ((w : ClockTest) → Contains (if b then t ∷ asked_from sc book u ts next else asked_from sc book u ts st) w → is_listed u w ≡ is_listed v w)
        → ((z : ClockState) → ((w : ClockTest) → Contains (asked_from sc book u ts z) w → is_listed u w ≡ is_listed v w) → asked_from sc book u ts z ≡ asked_from sc book v ts z)
        → (if b then t ∷ asked_from sc book u ts next else asked_from sc book u ts st) ≡ (if b then t ∷ asked_from sc book v ts (after_test sc book v st t) else asked_from sc book v ts st)
    go true g more =
        let same : is_listed u t ≡ is_listed v t = g t (Contains-here t (asked_from sc book u ts next)) in
        let moved : next ≡ after_test sc book v st t = ap (λ b. cond (is_active st t.station) (after_answer sc st t (fits book (asked_set sc st t.station) && not b)) st) same in
        ap (λ (us : List ClockTest). t ∷ us) (more next (λ w l. g w (Contains-there t w (asked_from sc book u ts next) l)) ∙ ap (asked_from sc book v ts) moved)
    go false g more = more st g

none-behind : (xs more : List Step) → map test_of xs ≡ map test_of (xs ++ more) → more ≡ []
none-behind [] [] e = refl
none-behind [] (y ∷ more) e = absurd cc
none-behind (x ∷ xs) more e = none-behind xs more cc

pub none-more : (sc : Scenario) (book : BookView) (t : Transcript) (rec : Record) (more : List Step) → IsAuction sc book → not_shown sc book t ≡ None → IsBacked sc book t.order rec → rec.ending ≡ Done → rec.start ≡ t.start → rec.steps ≡ steps_in t.steps ++ more → more ≡ []
unfolding asked_tests
none-more sc book t rec more a e b done start steps =
    let own : List Step = steps_in t.steps in
    let all : List Step = own ++ more in
    let U : List ClockTest = undecided_of own in
    let V : List ClockTest = undecided_of all in
    let ts : List ClockTest = clock_tests sc t.order in
    let st : ClockState = opening_state sc in
    let c : IsCompleted sc book t.order (transcript_record sc book t) = (shown-sound sc book t a e).backed.rest in
    let d : IsCompleted sc book t.order rec = subst (IsEnded sc book t.order rec) done b.rest in
    let mine : map test_of own ≡ asked_from sc book U ts st = c.tests in
    let theirs : map test_of all ≡ asked_from sc book V ts st = subst (λ (xs : List Step). map test_of xs ≡ asked_from sc book (undecided_of xs) ts st) steps d.tests in
    let apart : TestsApart ts = clock_apart sc t.order a.stations in
    let listed : AreListed U own = listed-shown own (subst TestsApart (sym mine) (asked-apart sc book U ts st apart)) in
    let listed' : AreListed V all = listed-shown all (subst TestsApart (sym theirs) (asked-apart sc book V ts st apart)) in
    let same : (u : ClockTest) → Contains (asked_from sc book U ts st) u → is_listed U u ≡ is_listed V u = λ u h.
    let (x, there, is) = Contains-from_map test_of own u (subst (λ (us : List ClockTest). Contains us u) (sym mine) h) in
    subst (λ (w : ClockTest). is_listed U w ≡ is_listed V w) is (listed x there ∙ sym (listed' x (Contains-append_left own more x there))) in
    none-behind own more (mine ∙ (asked-alike sc book U V ts st same ∙ sym theirs))

-- So the record is the transcript's.
pub none-other : (sc : Scenario) (book : BookView) (t : Transcript) (rec : Record) (more : List Step) → IsAuction sc book → not_shown sc book t ≡ None → IsBacked sc book t.order rec → rec.ending ≡ Done → rec.start ≡ t.start → rec.steps ≡ steps_in t.steps ++ more → rec ≡ transcript_record sc book t
none-other sc book t rec more a e b done start steps =
    let none : more ≡ [] = none-more sc book t rec more a e b done start steps in
    record-is sc book t rec a b.order_is b done start (steps ∙ (ap (λ (xs : List Step). steps_in t.steps ++ xs) none ∙ append-nil (steps_in t.steps)))

-- ---- the text of its record

-- The logs of valid steps are numbered correctly.
numbered : (sc : Scenario) (book : BookView) (step : ℕ) (state : CoreState) (ts : List ClockTest) (xs : List TranscriptStep) → steps_fault sc book step state ts xs ≡ None → AreNumbered sc book state xs
unfolding steps_fault
numbered sc book step state ts [] e = tt
numbered sc book step state ts (x ∷ xs) e =
    go (next_asked state.clock ts) e (λ us f. numbered sc book (step + 1) (settled sc state (test_of x.step) x.step.shown) us xs f)
  where
    next : CoreState
    next = settled sc state (test_of x.step) x.step.shown

    go : (left : List ClockTest) → at_test sc book step state x left (λ rest. steps_fault sc book (step + 1) next rest xs) ≡ None
        → ((us : List ClockTest) → steps_fault sc book (step + 1) next us xs ≡ None → AreNumbered sc book next xs)
        → AreNumbered sc book state (x ∷ xs)
    go [] f more = absurd (no-test step f)
    go (t ∷ us) f more =
        let test = if-none (is_test t x) step (step_fault_or step (step_fault sc book state x) (steps_fault sc book (step + 1) next us xs)) f in
        let parts = step_or-parts step (step_fault sc book state x) (steps_fault sc book (step + 1) next us xs) test.1 in
        ((step-shown sc book state x parts.0).1, more us parts.1)

-- So they are the logs of the transcript made of these steps.
numbers-again : (sc : Scenario) (book : BookView) (state : CoreState) (xs : List TranscriptStep) → AreNumbered sc book state xs → transcript_steps sc book state.clock (steps_in xs) ≡ xs
numbers-again sc book state [] h = refl
numbers-again sc book state (x ∷ xs) h = λ i. record { step = x.step; firsts = sym h.0 i } ∷ numbers-again sc book (settled sc state (test_of x.step) x.step.shown) xs h.1 i

-- The transcript of its record is the transcript itself.
pub transcript-back : (sc : Scenario) (book : BookView) (t : Transcript) → not_shown sc book t ≡ None → transcript_for sc book (transcript_record sc book t) ≡ t
unfolding not_shown transcript_for
transcript-back sc book t e =
    let first : CoreState = after_start sc t.order t.start in
    let parts = step_or-parts 0 (start_fault sc book t.start) (steps_fault sc book 1 first (clock_tests sc t.order) t.steps) e in
    let steps : transcript_steps sc book (opening_state sc) (steps_in t.steps) ≡ t.steps = numbers-again sc book first t.steps (numbered sc book 1 first (clock_tests sc t.order) t.steps parts.1) in
    λ i. record { order = t.order; start = t.start; steps = steps i }

pub same-text : (sc : Scenario) (book : BookView) (text : List ℕ) (t : Transcript) → length sc.workers < 2 ^ 32 → transcript_of sc book text ≡ Ok t → not_shown sc book t ≡ None → transcript_text sc book (transcript_record sc book t) ≡ text
same-text sc book text t few e none =
    ap (spelling book) (transcript-back sc book t none) ∙ sym (transcript-said sc book text t (omega (arith, few)) e)
