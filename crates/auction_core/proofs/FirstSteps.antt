-- The first error of a transcript that is cut after some steps is that of the complete one, if it is within them.
use Rattle.std.proofs.Common.{◌≡◌, ℕ, zero, suc, ◌+◌, ◌<◌, ◌≤◌, Bool, true, false, nat_le, if◌then◌else◌, List, [], ◌∷◌, length, take, Option, Some, None, refl, sym, ap, subst, ◌∙◌, arith}
use Rattle.std.proofs.lemmas.Bool.Decides.{nat_tests}
use Rattle.std.proofs.lemmas.List.{length-take}
use Rattle.pack_defs.specs.declared.scenario.Scenario.{Scenario}
use Rattle.pack_defs.specs.Book.{BookView}
use Rattle.pack_defs.specs.ClockRule.{ClockTest, clock_tests}
use Rattle.cert_types.specs.declared.answer.Place.{Place}
use Rattle.auction_core.specs.declared.prefix.ShownWhy.{ShownWhy}
use Rattle.auction_core.specs.declared.prefix.ShownWhy.TheVariants.{Order as WrongTest, NotValid}
use Rattle.auction_core.specs.declared.transcript.Transcript.{Transcript}
use Rattle.auction_core.specs.declared.transcript.TranscriptStep.{TranscriptStep}
use Rattle.auction_core.specs.State.{CoreState, settled, test_of}
use Rattle.auction_core.specs.Backed.{after_start}
use Rattle.auction_core.specs.LogNumbers.{steps_in}
use Rattle.auction_core.specs.NotShown.{NotShown, at_test, fault_at_end, first_steps, is_test, next_asked, not_kept, not_shown, not_shown_at, start_fault, step_fault, step_fault_or, steps_fault, within_steps}
use Rattle.auction_core.specs.Prefix.{IsPrefix}
use Rattle.auction_core.specs.Rule.{IsAuction}
use Rattle.auction_core.proofs.KeptLemmas.{kept-prefix}

-- ---- an error after these steps is not within them

pub not-within : (k : ℕ) (x : NotShown) → k < x.step → within_steps k (Some x) ≡ None
not-within k x h = go (nat_le x.step k) (le-false x.step k h)
  where
    le-false : (a k : ℕ) → k < a → nat_le a k ≡ false
    le-false a k h = grind (arith, nat_tests)

    go : (b : Bool) → b ≡ false → (if b then Some x else None) ≡ None
    go true e = absurd cc
    go false e = refl

pub is-within : (k : ℕ) (x : NotShown) → x.step ≤ k → within_steps k (Some x) ≡ Some x
is-within k x h = go (nat_le x.step k) (le-true x.step k h)
  where
    le-true : (a k : ℕ) → a ≤ k → nat_le a k ≡ true
    le-true a k h = grind (arith, nat_tests)

    go : (b : Bool) → b ≡ true → (if b then Some x else None) ≡ Some x
    go true e = refl
    go false e = absurd cc

late : (k m : ℕ) (why : ShownWhy) → k < m → within_steps k (not_shown_at m why) ≡ None
late k m why h = not-within k (record { step = m; why = why }) h

steps-late : (sc : Scenario) (book : BookView) (k m : ℕ) (state : CoreState) (ts : List ClockTest) (xs : List TranscriptStep) → k < m → within_steps k (steps_fault sc book m state ts xs) ≡ None
unfolding steps_fault
steps-late sc book k m state ts [] h = go (next_asked state.clock ts)
  where
    go : (left : List ClockTest) → within_steps k (fault_at_end m left) ≡ None
    go [] = refl
    go (t ∷ us) = late k m WrongTest h
steps-late sc book k m state ts (x ∷ xs) h = go (next_asked state.clock ts) (λ us. steps-late sc book k (m + 1) next us xs (omega (arith, h)))
  where
    next : CoreState
    next = settled sc state (test_of x.step) x.step.shown

    or-late : (o : Option Place) (rest : Option NotShown) → within_steps k rest ≡ None → within_steps k (step_fault_or m o rest) ≡ None
    or-late None rest e = e
    or-late (Some place) rest e = late k m (NotValid place) h

    if-late : (b : Bool) (o : Option NotShown) → within_steps k o ≡ None → within_steps k (if b then o else not_shown_at m WrongTest) ≡ None
    if-late true o e = e
    if-late false o e = late k m WrongTest h

    go : (left : List ClockTest) → ((us : List ClockTest) → within_steps k (steps_fault sc book (m + 1) next us xs) ≡ None)
        → within_steps k (at_test sc book m state x left (λ rest. steps_fault sc book (m + 1) next rest xs)) ≡ None
    go [] more = late k m WrongTest h
    go (t ∷ us) more = if-late (is_test t x) (step_fault_or m (step_fault sc book state x) (steps_fault sc book (m + 1) next us xs)) (or-late (step_fault sc book state x) (steps_fault sc book (m + 1) next us xs) (more us))

-- ---- the steps

none-more : (k : ℕ) → k + 0 < k + 1
none-more k = omega arith

shift : (k l : ℕ) → (k + 1) + l ≡ k + suc l
shift k l = omega arith

none-before : (n : ℕ) → 0 + n ≡ n
none-before n = omega arith

-- No step is left of those that are cut off.
cut-there : (sc : Scenario) (book : BookView) (k : ℕ) (state : CoreState) (ts : List ClockTest) (xs : List TranscriptStep)
    → within_steps (k + 0) (steps_fault sc book (k + 1) state ts []) ≡ within_steps (k + 0) (steps_fault sc book (k + 1) state ts xs)
cut-there sc book k state ts xs = steps-late sc book (k + 0) (k + 1) state ts [] (none-more k) ∙ sym (steps-late sc book (k + 0) (k + 1) state ts xs (none-more k))

cut-steps : (sc : Scenario) (book : BookView) (n k : ℕ) (state : CoreState) (ts : List ClockTest) (xs : List TranscriptStep)
    → within_steps (k + length (take n xs)) (steps_fault sc book (k + 1) state ts (take n xs)) ≡ within_steps (k + length (take n xs)) (steps_fault sc book (k + 1) state ts xs)
unfolding steps_fault
cut-steps sc book zero k state ts xs = cut-there sc book k state ts xs
cut-steps sc book (suc n) k state ts [] = refl
cut-steps sc book (suc n) k state ts (x ∷ xs) = go (next_asked state.clock ts) (λ us. cut-steps sc book n (k + 1) next us xs)
  where
    next : CoreState
    next = settled sc state (test_of x.step) x.step.shown

    first : List TranscriptStep
    first = take n xs

    most : ℕ
    most = k + suc (length first)

    or-same : (o : Option Place) (a b : Option NotShown) → within_steps most a ≡ within_steps most b → within_steps most (step_fault_or (k + 1) o a) ≡ within_steps most (step_fault_or (k + 1) o b)
    or-same None a b e = e
    or-same (Some place) a b e = refl

    if-same : (c : Bool) (a b : Option NotShown) → within_steps most a ≡ within_steps most b → within_steps most (if c then a else not_shown_at (k + 1) WrongTest) ≡ within_steps most (if c then b else not_shown_at (k + 1) WrongTest)
    if-same true a b e = e
    if-same false a b e = refl

    go : (left : List ClockTest)
        → ((us : List ClockTest) → within_steps (k + 1 + length first) (steps_fault sc book (k + 1 + 1) next us first) ≡ within_steps (k + 1 + length first) (steps_fault sc book (k + 1 + 1) next us xs))
        → within_steps most (at_test sc book (k + 1) state x left (λ rest. steps_fault sc book (k + 1 + 1) next rest first)) ≡ within_steps most (at_test sc book (k + 1) state x left (λ rest. steps_fault sc book (k + 1 + 1) next rest xs))
    go [] more = refl
    go (t ∷ us) more =
        let a : Option NotShown = steps_fault sc book (k + 1 + 1) next us first in
        let b : Option NotShown = steps_fault sc book (k + 1 + 1) next us xs in
        if-same (is_test t x) (step_fault_or (k + 1) (step_fault sc book state x) a) (step_fault_or (k + 1) (step_fault sc book state x) b)
        (or-same (step_fault sc book state x) a b (subst (λ m. within_steps m a ≡ within_steps m b) (shift k (length first)) (more us)))

-- ---- the complete transcript

pub cut-same : (sc : Scenario) (book : BookView) (t : Transcript) (n : ℕ) → not_kept sc book (first_steps n t) ≡ within_steps (length (take n t.steps)) (not_shown sc book t)
unfolding not_kept not_shown
cut-same sc book t n = go (start_fault sc book t.start)
  where
    most : ℕ
    most = length (take n t.steps)

    first : CoreState
    first = after_start sc t.order t.start

    steps : within_steps most (steps_fault sc book 1 first (clock_tests sc t.order) (take n t.steps)) ≡ within_steps most (steps_fault sc book 1 first (clock_tests sc t.order) t.steps)
    steps = subst (λ m. within_steps m (steps_fault sc book 1 first (clock_tests sc t.order) (take n t.steps)) ≡ within_steps m (steps_fault sc book 1 first (clock_tests sc t.order) t.steps)) (none-before most) (cut-steps sc book n 0 first (clock_tests sc t.order) t.steps)

    go : (o : Option Place) → within_steps most (step_fault_or 0 o (steps_fault sc book 1 first (clock_tests sc t.order) (take n t.steps))) ≡ within_steps most (step_fault_or 0 o (steps_fault sc book 1 first (clock_tests sc t.order) t.steps))
    go None = steps
    go (Some place) = refl

fewer : (n : ℕ) (xs : List TranscriptStep) → length (take n xs) ≤ n
fewer n xs = omega (arith, length-take n xs)

as-many : (n : ℕ) (xs : List TranscriptStep) → n ≤ length xs → n ≤ length (take n xs)
as-many n xs h = omega (arith, length-take n xs, h)

pub cut-there-too : (sc : Scenario) (book : BookView) (t : Transcript) (n : ℕ) (error : NotShown) → not_shown sc book t ≡ Some error → error.step ≤ n → n ≤ length t.steps → not_kept sc book (first_steps n t) ≡ Some error
cut-there-too sc book t n error e h all =
    cut-same sc book t n ∙ ap (within_steps (length (take n t.steps))) e ∙ is-within (length (take n t.steps)) error (omega (arith, h, as-many n t.steps all))

pub cut-before : (sc : Scenario) (book : BookView) (t : Transcript) (n : ℕ) (error : NotShown) → not_shown sc book t ≡ Some error → n < error.step → not_kept sc book (first_steps n t) ≡ None
cut-before sc book t n error e h =
    cut-same sc book t n ∙ ap (within_steps (length (take n t.steps))) e ∙ not-within (length (take n t.steps)) error (omega (arith, h, fewer n t.steps))

pub before-certified : (sc : Scenario) (book : BookView) (t : Transcript) (n : ℕ) (error : NotShown) → IsAuction sc book → not_shown sc book t ≡ Some error → n < error.step → IsPrefix sc book t.order (Some t.start) (steps_in (take n t.steps))
before-certified sc book t n error a e h = kept-prefix sc book (first_steps n t) a (cut-before sc book t n error e h)
