-- A valid transcript stays valid if an undecided step is replaced by a proof from outside.
use Rattle.std.proofs.Common.{◌≡◌, ℕ, zero, suc, ◌+◌, Bool, true, false, if◌then◌else◌, List, [], ◌∷◌, ◌++◌, Option, Some, None, MatchOption, refl, sym, ap, ◌∙◌}
use Rattle.std.specs.Option.{option_map_or}
use Rattle.pack_defs.specs.declared.scenario.Scenario.{Scenario}
use Rattle.pack_defs.specs.Book.{BookView, domain_of}
use Rattle.pack_defs.specs.Lists.{is_empty}
use Rattle.pack_defs.specs.ClockRule.{ClockTest}
use Rattle.cert_types.specs.declared.answer.Place.{Place}
use Rattle.cert_types.specs.Outside.{IsOutsideProof}
use Rattle.cert_types.specs.declared.outside.OutsideProof.{OutsideProof}
use Rattle.auction_core.specs.declared.record.Shown.{Shown}
use Rattle.auction_core.specs.declared.record.Shown.TheVariants.{Empty, Fits, Same, NoChannel, Refuted, Outside, Undecided}
use Rattle.auction_core.specs.declared.record.Step.{Step}
use Rattle.auction_core.specs.State.{CoreState, is_same, settled, test_of, test_task, tested_set}
use Rattle.auction_core.specs.Backed.{IsSettledBy, IsStepShown, is_undecided}
use Rattle.auction_core.specs.declared.transcript.TranscriptStep.{TranscriptStep}
use Rattle.transcript_text.specs.Spelling.{transcript_step, transcript_steps}
use Rattle.auction_core.specs.declared.prefix.ShownWhy.TheVariants.{Order}
use Rattle.auction_core.specs.NotShown.{NotShown, at_test, is_test, next_asked, not_shown_at, query_fault, step_fault, step_fault_or, steps_fault, unasked_fault}
use Rattle.auction_core.proofs.StepLemmas.{step-none, step-shown}
use Rattle.auction_core.proofs.WalkLemmas.{step_or-parts, if-parts, absurd-fault}
use Rattle.undecided_tests.specs.Settled.{shown_outside}
use Rattle.undecided_tests.proofs.AlikeLemmas.{AreAlike, alike-push, alike-same, alike-settled, same-settled, same-unasked, with_steps}
use Rattle.undecided_tests.proofs.SettledLemmas.{IsOpenAt, RefutesAt}

-- ---- states with alike steps find the same errors

same-fault : (sc : Scenario) (book : BookView) (state : CoreState) (ys : List Step) (w : TranscriptStep) → AreAlike state.steps ys → step_fault sc book state w ≡ step_fault sc book (with_steps state ys) w
same-fault sc book state ys w a =
    ap (λ (o : Option Shown). option_map_or (unasked_fault w) o (query_fault sc book (test_task sc book state (test_of w.step)) w.step.shown w.firsts))
    (same-unasked sc book state ys (test_of w.step) a)

same-faults : (sc : Scenario) (book : BookView) (n : ℕ) (state : CoreState) (ys : List Step) (ts : List ClockTest) (ws : List TranscriptStep) → AreAlike state.steps ys
    → steps_fault sc book n state ts ws ≡ steps_fault sc book n (with_steps state ys) ts ws
unfolding steps_fault
same-faults sc book n state ys ts [] a = refl
same-faults sc book n state ys ts (w ∷ ws) a =
    go (next_asked state.clock ts)
    (λ us. same-faults sc book (n + 1) next (ys ++ w.step ∷ []) us ws (alike-settled sc state ys (test_of w.step) w.step.shown a)
    ∙ ap (λ (q : CoreState). steps_fault sc book (n + 1) q us ws) (sym (same-settled sc state ys (test_of w.step) w.step.shown a)))
  where
    next : CoreState
    next = settled sc state (test_of w.step) w.step.shown

    other : CoreState
    other = settled sc (with_steps state ys) (test_of w.step) w.step.shown

    go : (left : List ClockTest) → ((us : List ClockTest) → steps_fault sc book (n + 1) next us ws ≡ steps_fault sc book (n + 1) other us ws)
        → at_test sc book n state w left (λ rest. steps_fault sc book (n + 1) next rest ws) ≡ at_test sc book n (with_steps state ys) w left (λ rest. steps_fault sc book (n + 1) other rest ws)
    go [] rest = refl
    go (t ∷ us) rest = λ i. if is_test t w then step_fault_or n (same-fault sc book state ys w a i) (rest us i) else not_shown_at n Order

-- ---- the step itself

both-none : (b : Bool) (n : ℕ) (o : Option Place) (rest : Option NotShown) → b ≡ true → o ≡ None → rest ≡ None → (if b then step_fault_or n o rest else not_shown_at n Order) ≡ None
both-none b n o rest e f g = rw (e, f) g

-- An undecided step needed a query, and the proof settles it.
outside-shown : (sc : Scenario) (book : BookView) (state : CoreState) (r s : ℕ) (receipts : List _) (proof : OutsideProof) → IsOutsideProof book (tested_set sc book state.clock s) proof
    → IsStepShown sc book state (record { round = r; station = s; shown = Undecided receipts }) → IsStepShown sc book state (record { round = r; station = s; shown = Outside proof })
outside-shown sc book state r s receipts proof p h = go (is_empty (domain_of book s)) (is_same sc book state t) h
  where
    t : ClockTest
    t = record { round = r; station = s }

    Was : Option Shown → Type 0
    Was o = MatchOption o (IsSettledBy sc book (test_task sc book state t) (Undecided receipts)) (λ unasked. Undecided receipts ≡ unasked)

    Is : Option Shown → Type 0
    Is o = MatchOption o (IsSettledBy sc book (test_task sc book state t) (Outside proof)) (λ unasked. Outside proof ≡ unasked)

    go : (b c : Bool) → Was (if b then Some (NoChannel s) else (if c then Some Same else None)) → Is (if b then Some (NoChannel s) else (if c then Some Same else None))
    go true c w = absurd cc
    go false true w = absurd cc
    go false false w = p

replaced-here : (sc : Scenario) (book : BookView) (n : ℕ) (state : CoreState) (ts : List ClockTest) (r s : ℕ) (receipts : List _) (xs : List Step) (proof : OutsideProof) → IsOutsideProof book (tested_set sc book state.clock s) proof
    → steps_fault sc book n state ts (transcript_steps sc book state.clock (record { round = r; station = s; shown = Undecided receipts } ∷ xs)) ≡ None
    → steps_fault sc book n state ts (transcript_steps sc book state.clock (record { round = r; station = s; shown = Outside proof } ∷ xs)) ≡ None
unfolding steps_fault
replaced-here sc book n state ts r s receipts xs proof p e = go (next_asked state.clock ts) e
  where
    x : Step
    x = record { round = r; station = s; shown = Undecided receipts }

    y : Step
    y = record { round = r; station = s; shown = Outside proof }

    next : CoreState
    next = settled sc state (test_of x) x.shown

    other : CoreState
    other = settled sc state (test_of y) y.shown

    ws : List TranscriptStep
    ws = transcript_steps sc book next.clock xs

    same : (us : List ClockTest) → steps_fault sc book (n + 1) next us ws ≡ steps_fault sc book (n + 1) other us ws
    same us = same-faults sc book (n + 1) next (state.steps ++ y ∷ []) us ws (alike-push state.steps state.steps x y (alike-same state.steps) (refl, refl, refl, tt))

    go : (left : List ClockTest) → at_test sc book n state (transcript_step sc book state.clock x) left (λ rest. steps_fault sc book (n + 1) next rest ws) ≡ None
        → at_test sc book n state (transcript_step sc book state.clock y) left (λ rest. steps_fault sc book (n + 1) other rest ws) ≡ None
    go [] f = absurd (absurd-fault (record { step = n; why = Order }) f)
    go (t ∷ us) f =
        let w : TranscriptStep = transcript_step sc book state.clock x in
        let v : TranscriptStep = transcript_step sc book state.clock y in
        let test = if-parts (is_test t w) n (step_fault_or n (step_fault sc book state w) (steps_fault sc book (n + 1) next us ws)) f in
        let parts = step_or-parts n (step_fault sc book state w) (steps_fault sc book (n + 1) next us ws) test.1 in
        let shown = step-shown sc book state w parts.0 in
        both-none (is_test t v) n (step_fault sc book state v) (steps_fault sc book (n + 1) other us ws) test.0
        (step-none sc book state v (outside-shown sc book state r s receipts proof p shown.0) refl) (sym (same us) ∙ parts.1)

replaced-now : (sc : Scenario) (book : BookView) (n : ℕ) (state : CoreState) (ts : List ClockTest) (r s : ℕ) (shown : Shown) (xs : List Step) (proof : OutsideProof) → is_undecided shown ≡ true → IsOutsideProof book (tested_set sc book state.clock s) proof
    → steps_fault sc book n state ts (transcript_steps sc book state.clock (record { round = r; station = s; shown = shown } ∷ xs)) ≡ None
    → steps_fault sc book n state ts (transcript_steps sc book state.clock (record { round = r; station = s; shown = Outside proof } ∷ xs)) ≡ None
replaced-now sc book n state ts r s Empty xs proof e p none = absurd cc
replaced-now sc book n state ts r s (Fits delta) xs proof e p none = absurd cc
replaced-now sc book n state ts r s Same xs proof e p none = absurd cc
replaced-now sc book n state ts r s (NoChannel f) xs proof e p none = absurd cc
replaced-now sc book n state ts r s (Refuted w how) xs proof e p none = absurd cc
replaced-now sc book n state ts r s (Outside other) xs proof e p none = absurd cc
replaced-now sc book n state ts r s (Undecided receipts) xs proof e p none = replaced-here sc book n state ts r s receipts xs proof p none

-- ---- all steps

pub replaced : (sc : Scenario) (book : BookView) (n : ℕ) (state : CoreState) (ts : List ClockTest) (xs : List Step) (i : ℕ) (proof : OutsideProof) → IsOpenAt xs i → RefutesAt sc book state xs i proof
    → steps_fault sc book n state ts (transcript_steps sc book state.clock xs) ≡ None → steps_fault sc book n state ts (transcript_steps sc book state.clock (shown_outside xs i proof)) ≡ None
unfolding steps_fault
replaced sc book n state ts [] i proof h p none = absurd h
replaced sc book n state ts (x ∷ xs) zero proof h p none = replaced-now sc book n state ts x.round x.station x.shown xs proof h p none
replaced sc book n state ts (x ∷ xs) (suc i) proof h p none =
    go (next_asked state.clock ts) none (λ us. replaced sc book (n + 1) next us xs i proof h p)
  where
    next : CoreState
    next = settled sc state (test_of x) x.shown

    w : TranscriptStep
    w = transcript_step sc book state.clock x

    go : (left : List ClockTest) → at_test sc book n state w left (λ rest. steps_fault sc book (n + 1) next rest (transcript_steps sc book next.clock xs)) ≡ None
        → ((us : List ClockTest) → steps_fault sc book (n + 1) next us (transcript_steps sc book next.clock xs) ≡ None → steps_fault sc book (n + 1) next us (transcript_steps sc book next.clock (shown_outside xs i proof)) ≡ None)
        → at_test sc book n state w left (λ rest. steps_fault sc book (n + 1) next rest (transcript_steps sc book next.clock (shown_outside xs i proof))) ≡ None
    go [] f rest = f
    go (t ∷ us) f rest =
        let test = if-parts (is_test t w) n (step_fault_or n (step_fault sc book state w) (steps_fault sc book (n + 1) next us (transcript_steps sc book next.clock xs))) f in
        let parts = step_or-parts n (step_fault sc book state w) (steps_fault sc book (n + 1) next us (transcript_steps sc book next.clock xs)) test.1 in
        both-none (is_test t w) n (step_fault sc book state w) (steps_fault sc book (n + 1) next us (transcript_steps sc book next.clock (shown_outside xs i proof))) test.0 parts.0 (rest us parts.1)
