-- The accepted beginning of a transcript has the first tests that the rule asks, each properly settled. For `check_kept_sequence`.
use Rattle.std.proofs.Common.{◌≡◌, ℕ, suc, ◌+◌, ◌≤◌, Bool, true, false, not, ◌&&◌, nat_le, if◌then◌else◌, List, [], ◌∷◌, ◌++◌, map, length, take, Option, Some, None, refl, sym, ap, subst, ◌∙◌, arith, append_assoc}
use Rattle.std.specs.Option.{option_map_or}
use Rattle.std.proofs.lemmas.Bool.{both_ways}
use Rattle.std.proofs.lemmas.Bool.Decides.{nat_tests}
use Rattle.std.proofs.lemmas.List.{length-map}
use Rattle.pack_defs.specs.declared.scenario.Scenario.{Scenario}
use Rattle.pack_defs.specs.Book.{BookView}
use Rattle.pack_defs.specs.Lists.{is_empty}
use Rattle.pack_defs.specs.declared.order.Order.{Order}
use Rattle.pack_defs.specs.ClockRule.{ClockTest, after_tests, asked_from, asked_tests, clock_tests, is_active, opening_state}
use Rattle.pack_defs.proofs.TestOrder.{asked_in_turn}
use Rattle.cert_types.specs.declared.answer.Place.{Place}
use Rattle.auction_core.specs.declared.prefix.Prefix.{Prefix}
use Rattle.auction_core.specs.declared.prefix.ShownWhy.{ShownWhy}
use Rattle.auction_core.specs.declared.prefix.ShownWhy.TheVariants.{Order as WrongTest, NotValid}
use Rattle.auction_core.specs.declared.record.Shown.{Shown}
use Rattle.auction_core.specs.declared.record.Step.{Step}
use Rattle.auction_core.specs.declared.transcript.TranscriptStep.{TranscriptStep}
use Rattle.auction_core.specs.State.{CoreState, opening, settled, shows_room, test_of}
use Rattle.auction_core.specs.Checked.{IsAt, IsEarly}
use Rattle.auction_core.specs.declared.prefix.ResumeErr.{ResumeErr}
use Rattle.auction_core.specs.declared.prefix.ResumeErr.TheVariants as resume
use Rattle.auction_core.specs.Backed.{AreShown, after_start, after_steps, undecided_of}
use Rattle.auction_core.specs.LogNumbers.{AreNumbered, steps_in}
use Rattle.auction_core.specs.NotShown.{Explains, NotShown, at_test, fault_at_end, is_test, as_transcript, next_asked, not_kept, not_shown, not_shown_at, order_kept, start_fault, started_fault, step_fault, step_fault_or, steps_fault, unstarted_fault, within_steps}
use Rattle.auction_core.specs.Prefix.{IsPrefix, resumed}
use Rattle.auction_core.specs.Rule.{IsAuction}
use Rattle.auction_core.specs.ClockProgress.{IsClockProgress}
use Rattle.auction_core.proofs.Done.{done-room}
use Rattle.auction_core.proofs.StartFaults.{after_steps-order, start-shown, start-walk}
use Rattle.auction_core.proofs.StepLemmas.{nil-is, step-shown}
use Rattle.auction_core.proofs.Steps.{after_steps-steps}
use Rattle.auction_core.proofs.Walk.{walk-step}
use Rattle.auction_core.proofs.WalkLemmas.{IsPassed, passed, same-tests}

some-none : {A : Type 0} (x : A) → Some x ≡ None → ⊥
some-none x e = cc

-- a fault of one of these steps is within them
within-some : (steps : ℕ) (fault : NotShown) → fault.step ≤ steps → within_steps steps (Some fault) ≡ Some fault
within-some steps fault h = go (nat_le fault.step steps) (le-true fault.step steps h)
  where
    le-true : (a b : ℕ) → a ≤ b → nat_le a b ≡ true
    le-true a b h = grind (arith, nat_tests)

    go : (b : Bool) → b ≡ true → (if b then Some fault else None) ≡ Some fault
    go true e = refl
    go false e = absurd cc

-- if no fault is within them, none of them has one
none-within : (steps step : ℕ) (why : ShownWhy) → step ≤ steps → within_steps steps (not_shown_at step why) ≡ None → ⊥
none-within steps step why h e = some-none (record { step = step; why = why }) (sym (within-some steps (record { step = step; why = why }) h) ∙ e)

-- a fault after these steps is not within them
pub within-behind : (steps : ℕ) (why : ShownWhy) → within_steps steps (not_shown_at (steps + 1) why) ≡ None
within-behind steps why = go (nat_le (steps + 1) steps) (le-false steps)
  where
    le-false : (a : ℕ) → nat_le (a + 1) a ≡ false
    le-false a = grind (arith, nat_tests)

    go : (b : Bool) → b ≡ false → (if b then not_shown_at (steps + 1) why else None) ≡ None
    go true e = absurd cc
    go false e = refl

-- ---- the steps

-- what steps without a fault lead to: the clock is before these tests
pub record IsFollowedSoFar (sc : Scenario) (book : BookView) (start : Shown) (state : CoreState) (xs : List TranscriptStep) : Type 0 where
  pub before : List ClockTest
  pub left : List ClockTest
  pub progress : IsClockProgress sc book start (after_steps sc state (steps_in xs)) before
  pub all_tests : clock_tests sc state.order ≡ before ++ left
  pub numbered : AreNumbered sc book state xs

if-within : (steps step : ℕ) (b : Bool) (o : Option NotShown) → step ≤ steps → within_steps steps (if b then o else not_shown_at step WrongTest) ≡ None → (b ≡ true) × (within_steps steps o ≡ None)
if-within steps step true o h e = (refl, e)
if-within steps step false o h e = absurd (none-within steps step WrongTest h e)

or-within : (steps step : ℕ) (o : Option Place) (rest : Option NotShown) → step ≤ steps → within_steps steps (step_fault_or step o rest) ≡ None → (o ≡ None) × (within_steps steps rest ≡ None)
or-within steps step None rest h e = (refl, e)
or-within steps step (Some place) rest h e = absurd (none-within steps step (NotValid place) h e)

shift : (k l : ℕ) → k + suc l ≡ (k + 1) + l
shift k l = omega arith

inside : (k l : ℕ) → k + 1 ≤ k + suc l
inside k l = omega arith

followed-so-far : (sc : Scenario) (book : BookView) (start : Shown) (k : ℕ) (state : CoreState) (before ts : List ClockTest) (xs : List TranscriptStep) → IsAuction sc book → IsClockProgress sc book start state before → clock_tests sc state.order ≡ before ++ ts
    → within_steps (k + length xs) (steps_fault sc book (k + 1) state ts xs) ≡ None → IsFollowedSoFar sc book start state xs
unfolding steps_fault
followed-so-far sc book start k state before ts [] a w parts e = record { before = before; left = ts; progress = w; all_tests = parts; numbered = tt }
followed-so-far sc book start k state before ts (x ∷ xs) a w parts e =
    go (next_asked state.clock ts) (passed sc book start state before ts w parts) e
    (λ before' us w' parts' e'. followed-so-far sc book start (k + 1) (settled sc state (test_of x.step) x.step.shown) before' us xs a w' parts' e')
  where
    next : CoreState
    next = settled sc state (test_of x.step) x.step.shown

    Rest : Type 0
    Rest = (before' us : List ClockTest) → IsClockProgress sc book start next before' → clock_tests sc next.order ≡ before' ++ us → within_steps (k + 1 + length xs) (steps_fault sc book (k + 1 + 1) next us xs) ≡ None → IsFollowedSoFar sc book start next xs

    go : (left : List ClockTest) → IsPassed sc book start state left → within_steps (k + suc (length xs)) (at_test sc book (k + 1) state x left (λ rest. steps_fault sc book (k + 1 + 1) next rest xs)) ≡ None → Rest → IsFollowedSoFar sc book start state (x ∷ xs)
    go [] p f more = absurd (none-within (k + suc (length xs)) (k + 1) WrongTest (inside k (length xs)) f)
    go (t ∷ us) p f more =
        let test = if-within (k + suc (length xs)) (k + 1) (is_test t x) (step_fault_or (k + 1) (step_fault sc book state x) (steps_fault sc book (k + 1 + 1) next us xs)) (inside k (length xs)) f in
        let both = or-within (k + suc (length xs)) (k + 1) (step_fault sc book state x) (steps_fault sc book (k + 1 + 1) next us xs) (inside k (length xs)) test.1 in
        let same : t ≡ test_of x.step = same-tests t x test.0 in
        let shown = step-shown sc book state x both.0 in
        let active : is_active state.clock x.step.station ≡ true = ap (λ (u : ClockTest). is_active state.clock u.station) (sym same) ∙ p.asked t us refl in
        let parts' : clock_tests sc state.order ≡ p.before ++ test_of x.step ∷ us = p.all_tests ∙ ap (λ (u : ClockTest). p.before ++ u ∷ us) same in
        let w' = walk-step sc book start state p.before us (test_of x.step) x.step.shown a p.progress parts' active shown.0 in
        let rest = more (p.before ++ test_of x.step ∷ []) us w' (parts' ∙ sym (append_assoc p.before (test_of x.step ∷ []) us))
        (subst (λ n. within_steps n (steps_fault sc book (k + 1 + 1) next us xs) ≡ None) (shift k (length xs)) both.1) in
        record { before = rest.before; left = rest.left; progress = rest.progress; all_tests = rest.all_tests; numbered = (shown.1, rest.numbered) }

-- ---- the complete beginning

-- the first n elements of a list that begins with n given ones
first-of : {A : Type 0} (xs ys zs : List A) (n : ℕ) → xs ≡ ys → length ys ≡ n → ys ≡ take n (xs ++ zs)
first-of {A = A} xs ys zs n e h = subst (λ (ws : List A). ys ≡ take n (ws ++ zs)) (sym e) (subst (λ k. ys ≡ take k (ys ++ zs)) h (own ys zs))
  where
    own : (ys zs : List A) → ys ≡ take (length ys) (ys ++ zs)
    own [] zs = refl
    own (y ∷ ys) zs = ap (λ l. y ∷ l) (own ys zs)

none-before : (n : ℕ) → 0 + n ≡ n
none-before n = omega arith

-- after a start
started : (sc : Scenario) (book : BookView) (order : Order) (start : Shown) (xs : List TranscriptStep) → IsAuction sc book → start_fault sc book start ≡ None → within_steps (length xs) (steps_fault sc book 1 (after_start sc order start) (clock_tests sc order) xs) ≡ None
    → IsPrefix sc book order (Some start) (steps_in xs) × AreNumbered sc book (after_start sc order start) xs
unfolding asked_tests
started sc book order start xs a none e =
    let s = start-shown sc book start none in
    let room = done-room start s.1 in
    let first : CoreState = after_start sc order start in
    let steps : List Step = steps_in xs in
    let f = followed-so-far sc book start 0 first [] (clock_tests sc order) xs a (start-walk sc book order start a s.0 room) refl
    (subst (λ n. within_steps n (steps_fault sc book 1 first (clock_tests sc order) xs) ≡ None) (sym (none-before (length xs))) e) in
    let last : CoreState = after_steps sc first steps in
    let own : last.steps ≡ steps = after_steps-steps sc first steps in
    let turned : last.order ≡ order = after_steps-order sc first steps in
    let U : List ClockTest = undecided_of steps in
    let asked : map test_of steps ≡ asked_from sc book U f.before (opening_state sc) = subst (λ (ys : List Step). map test_of ys ≡ asked_from sc book (undecided_of ys) f.before (opening_state sc)) own f.progress.tests in
    let all : asked_from sc book U (clock_tests sc order) (opening_state sc) ≡ asked_from sc book U f.before (opening_state sc) ++ asked_from sc book U f.left (after_tests sc book U f.before (opening_state sc)) =
    ap (λ (ts : List ClockTest). asked_from sc book U ts (opening_state sc)) f.all_tests ∙ asked_in_turn sc book U f.before f.left (opening_state sc) in (
      record {
        start_is = s.0;
        idle = λ no. absurd (both_ways (shows_room start) no room);
        tests = first-of (asked_from sc book U f.before (opening_state sc)) (map test_of steps) (asked_from sc book U f.left (after_tests sc book U f.before (opening_state sc))) (length steps) (sym asked) (length-map steps test_of)
            ∙ ap (take (length steps)) (sym all);
        shown = subst (λ (d : Order). AreShown sc book (after_start sc d start) steps) turned (subst (λ (ys : List Step). AreShown sc book (after_start sc last.order start) ys) own f.progress.shown);
      },
      f.numbered,
    )

none-if : (b : Bool) (steps : ℕ) (o : Option NotShown) → (if b then o else within_steps steps o) ≡ None → within_steps steps o ≡ None
none-if true steps o e = ap (within_steps steps) e
none-if false steps o e = e

-- the beginning of a transcript without a fault may be continued
pub kept-prefix : (sc : Scenario) (book : BookView) (p : Prefix) → IsAuction sc book → not_kept sc book p ≡ None → IsPrefix sc book (order_kept p) p.start (steps_in p.steps)
unfolding not_kept not_shown
kept-prefix sc book p a e = go p.start e
  where
    no-steps : (b ended : Bool) → (if b && not ended then None else not_shown_at 1 WrongTest) ≡ None → b ≡ true
    no-steps true true f = absurd cc
    no-steps true false f = refl
    no-steps false ended f = absurd cc

    nil : (xs : List TranscriptStep) → xs ≡ [] → steps_in xs ≡ []
    nil xs f = ap steps_in f

    go : (o : Option Shown) → option_map_or (λ start. started_fault sc book p.ended (as_transcript p start)) o (unstarted_fault p) ≡ None → IsPrefix sc book (order_kept p) o (steps_in p.steps)
    go None f =
        let empty : p.steps ≡ [] = nil-is p.steps (no-steps (is_empty p.steps) p.ended f) in
        let steps : steps_in p.steps ≡ [] = nil p.steps empty in
        record {
          start_is = tt;
          idle = λ no. steps;
          tests = subst (λ (ys : List Step). map test_of ys ≡ take (length ys) (asked_tests sc book (order_kept p) (undecided_of ys))) (sym steps) refl;
          shown = subst (AreShown sc book _) (sym steps) tt;
        }
    go (Some start) f =
        let found = none-if p.ended (length p.steps) (not_shown sc book (as_transcript p start)) f in
        let parts = or-within (length p.steps) 0 (start_fault sc book start) (steps_fault sc book 1 (after_start sc (order_kept p) start) (clock_tests sc (order_kept p)) p.steps) (omega arith) found in
        (started sc book (order_kept p) start p.steps a parts.0 parts.1).0

-- ---- what the code reports

-- after the last step of the walk, no fault is within the steps
pub end-within : (sc : Scenario) (book : BookView) (order : Order) (start : Shown) (done : List Step) (found : Option NotShown) (state : CoreState) → IsAt sc book order start done [] found state → within_steps (length done) found ≡ None
unfolding steps_fault
end-within sc book order start done found state a = ap (within_steps (length done)) (sym a.rest) ∙ go (next_asked a.at.clock a.left)
  where
    go : (ts : List ClockTest) → within_steps (length done) (fault_at_end (length done + 1) ts) ≡ None
    go [] = refl
    go (t ∷ ts) = within-behind (length done) WrongTest

pub early-more : (e : ResumeErr) (n m : ℕ) → IsEarly e n → n ≤ m → IsEarly e m
early-more (resume.NotShown step why) n m h le = omega (arith, h, le)
early-more resume.NoMemory n m h le = tt

-- an early error is the fault within the steps
pub explains-within : (e : ResumeErr) (n : ℕ) (found : Option NotShown) → Explains e found → IsEarly e n → Explains e (within_steps n found)
explains-within resume.NoMemory n found h early = tt
explains-within (resume.NotShown step why) n found h early = ap (within_steps n) h ∙ within-some n (record { step = step; why = why }) early

-- a start without a fault fits
pub started-room : (sc : Scenario) (book : BookView) (start : Shown) → start_fault sc book start ≡ None → shows_room start ≡ true
started-room sc book start e = done-room start (start-shown sc book start e).1

-- before the start test is settled
pub unstarted : (sc : Scenario) (book : BookView) (p : Prefix) (b : Bool) → p.start ≡ None → (is_empty p.steps && not p.ended) ≡ b → not_kept sc book p ≡ (if b then None else not_shown_at 1 WrongTest)
unfolding not_kept
unstarted sc book p b e h = ap (λ (o : Option Shown). option_map_or (λ start. started_fault sc book p.ended (as_transcript p start)) o (unstarted_fault p)) e ∙ ap (λ (b : Bool). if b then None else not_shown_at 1 WrongTest) h

pub unstarted-state : (sc : Scenario) (book : BookView) (order : Order) (start : Option Shown) (steps : List Step) → start ≡ None → opening sc book order ≡ resumed sc book order start steps
unfolding resumed
unstarted-state sc book order start steps e = ap (λ (o : Option Shown). resumed sc book order o steps) (sym e)

-- after the start test is settled
pub kept-started : (sc : Scenario) (book : BookView) (p : Prefix) (start : Shown) (order : Order) (steps : List TranscriptStep) → p.start ≡ Some start → order ≡ order_kept p → steps ≡ p.steps
    → not_kept sc book p ≡ started_fault sc book p.ended (record { order = order; start = start; steps = steps })
unfolding not_kept
kept-started sc book p start order steps e f g =
    ap (λ (o : Option Shown). option_map_or (λ start. started_fault sc book p.ended (as_transcript p start)) o (unstarted_fault p)) e
    ∙ (λ i. started_fault sc book p.ended (record { order = sym f i; start = start; steps = sym g i }))
