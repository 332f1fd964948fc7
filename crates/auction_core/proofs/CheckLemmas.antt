-- The start of a transcript check, and each further step. For `check_sequence` and `step_check`.
use Rattle.std.proofs.Common.{◌≡◌, ◌<◌, ◌≤◌, ℕ, ◌+◌, Bool, true, false, if◌then◌else◌, List, [], ◌∷◌, ◌++◌, find, length, take, drop, get_or, Option, Some, None, option_map, is_none, is_some, refl, sym, ap, ap₂, subst, ◌∙◌, arith}
use Rattle.std.specs.Option.{option_map_or}
use Rattle.std.proofs.lemmas.List.{drop_more, take_more, map-append, length-drop, length-take-le, length-map}
use Rattle.pack_defs.specs.declared.scenario.Scenario.{Scenario}
use Rattle.pack_defs.specs.Book.{BookView, domain_of}
use Rattle.pack_defs.specs.declared.order.Order.{Order}
use Rattle.pack_defs.specs.Lists.{is_empty}
use Rattle.pack_defs.specs.Prices.{start_set}
use Rattle.pack_defs.specs.ClockRule.{clock_tests}
use Rattle.cert_types.specs.declared.answer.Place.TheVariants.{Kind}
use Rattle.cert_types.specs.Valid.{fit_fault, unless}
use Rattle.auction_core.specs.declared.record.Shown.{Shown}
use Rattle.auction_core.specs.declared.record.Shown.TheVariants.{Empty, Fits, NoChannel}
use Rattle.auction_core.specs.declared.record.Step.{Step}
use Rattle.auction_core.specs.State.{CoreState, answered, before_start, advance_to_query, opening, shows_room, start_task, start_unasked, started, task_of}
use Rattle.auction_core.specs.Backed.{after_start}
use Rattle.auction_core.proofs.Keeps.{go-on-start}
use Rattle.auction_core.proofs.Prefixes.{opening-goes}
use Rattle.auction_core.specs.declared.transcript.TranscriptStep.{TranscriptStep}
use Rattle.auction_core.specs.declared.prefix.ShownWhy.{ShownWhy}
use Rattle.auction_core.specs.declared.prefix.ShownWhy.TheVariants.{NotValid}
use Rattle.auction_core.specs.declared.prefix.ResumeErr.{ResumeErr}
use Rattle.auction_core.specs.declared.prefix.ResumeErr.TheVariants as resume
use Rattle.auction_core.specs.declared.step_err.StepErr.{StepErr}
use Rattle.auction_core.specs.Checked.{IsAt, IsStepFault, is_empty_shown, step_result, step_leaves}
use Rattle.auction_core.specs.NotShown.{NotShown, Explains, not_shown_at, start_fault, steps_fault}
use Rattle.auction_core.specs.LogNumbers.{steps_in}
use Rattle.auction_core.proofs.NumberLemmas.{steps-beside}
use Rattle.auction_core.proofs.CheckSequenceLemmas.{checked}
use Rattle.auction_core.proofs.ReplayTestsLemmas.{through-left}

-- ---- the start

pub task-start : (sc : Scenario) (book : BookView) (state : CoreState) → state.start ≡ None → task_of sc book state ≡ Some (start_task sc state.number)
unfolding task_of
task-start sc book state e = rw e refl

-- how the start is settled when an auction opens
opened : (sc : Scenario) (book : BookView) (order : Order) → (opening sc book order).start ≡ start_unasked sc book
unfolding opening
opened sc book order = go (start_unasked sc book)
  where
    inner : (shown : Shown) (b : Bool) → (if b then advance_to_query sc book (clock_tests sc order) (after_start sc order shown) else record (before_start sc order) { start = Some shown }).start ≡ Some shown
    inner shown true = (go-on-start sc book (clock_tests sc order) (after_start sc order shown)).0
    inner shown false = refl

    go : (o : Option Shown) → (option_map_or (started sc book (before_start sc order)) o (before_start sc order)).start ≡ o
    go None = refl
    go (Some shown) = inner shown (shows_room shown)

-- the test order of the opening state
pub opening-order : (sc : Scenario) (book : BookView) (order : Order) (state : CoreState) → state ≡ opening sc book order → state.order ≡ order
opening-order sc book order state e = ap (λ z. z.order) e ∙ (opening-goes sc book order).order

pub opening-is : (sc sc' : Scenario) (book book' : BookView) (order : Order) (state : CoreState) → sc' ≡ sc → book' ≡ book → state ≡ opening sc book order → state ≡ opening sc' book' state.order
opening-is sc sc' book book' order state es eb e =
    e ∙ (ap₂ (λ s b. opening s b order) (sym es) (sym eb) ∙ ap (opening sc' book') (sym (opening-order sc book order state e)))

pub empty-start : (sc : Scenario) (book : BookView) → is_empty_shown (start_unasked sc book) ≡ is_empty (start_set sc)
empty-start sc book = go (is_empty (start_set sc)) (find (λ s. is_empty (domain_of book s)) (start_set sc))
  where
    go : (b : Bool) (o : Option ℕ) → is_empty_shown (if b then Some Empty else option_map NoChannel o) ≡ b
    go true o = refl
    go false None = refl
    go false (Some s) = refl

-- the start set is empty
pub empty-at : (sc : Scenario) (book : BookView) (order : Order) (state : CoreState) (xs : List TranscriptStep) (found : Option NotShown) → state ≡ opening sc book order → is_empty (start_set sc) ≡ true
    → steps_fault sc book 1 (after_start sc order Empty) (clock_tests sc order) xs ≡ found → IsAt sc book order Empty [] xs found state
unfolding opening
empty-at sc book order state xs found e empty h = record {
  at = after_start sc order Empty;
  left = clock_tests sc order;
  goes = e ∙ ap (λ (b : Bool). option_map_or (started sc book (before_start sc order)) (if b then Some Empty else option_map NoChannel (find (λ s. is_empty (domain_of book s)) (start_set sc))) (before_start sc order)) empty;
  turned = refl;
  steps = refl;
  begun = refl;
  counted = refl;
  quiet = refl;
  through = λ more n l. sym (through-left sc book (clock_tests sc order) more (record (after_start sc order Empty) { number = n }) l);
  rest = h;
}

-- if the start test needs a query, the auction opens before it
pub unopened : (sc : Scenario) (book : BookView) (order : Order) → start_unasked sc book ≡ None → opening sc book order ≡ before_start sc order
unfolding opening
unopened sc book order e = rw e refl

-- a fit settles the start test
pub fit-at : (sc : Scenario) (book : BookView) (order : Order) (state : CoreState) (delta : List (ℕ × ℕ)) (xs : List TranscriptStep) (found : Option NotShown) → state ≡ answered sc book (before_start sc order) (Fits delta)
    → steps_fault sc book 1 (after_start sc order (Fits delta)) (clock_tests sc order) xs ≡ found → IsAt sc book order (Fits delta) [] xs found state
fit-at sc book order state delta xs found e h =
    let next : CoreState = record (after_start sc order (Fits delta)) { number = 2 } in
    record {
      at = next;
      left = clock_tests sc order;
      goes = e;
      turned = refl;
      steps = refl;
      begun = refl;
      counted = refl;
      quiet = refl;
      through = λ more n l. sym (through-left sc book (clock_tests sc order) more (record (after_start sc order (Fits delta)) { number = n }) l);
      rest = steps-beside sc book 1 (after_start sc order (Fits delta)) next (clock_tests sc order) xs ∙ h;
    }

pub none-is : (o : Option Shown) → is_none o ≡ true → o ≡ None
none-is None e = refl
none-is (Some x) e = absurd cc

-- ---- one more step

head-of : (x y : TranscriptStep) (xs ys : List TranscriptStep) → x ∷ xs ≡ y ∷ ys → (x ≡ y) × (xs ≡ ys)
head-of x y xs ys e = (cc, cc)

taken : (all : List TranscriptStep) (place : ℕ) → place ≤ length all → length (steps_in (take place all)) ≡ place
taken all place h = length-map (take place all) (λ (x : TranscriptStep). x.step) ∙ length-take-le place all h

one-more : (all : List TranscriptStep) (place : ℕ) (x : TranscriptStep) → place < length all → x ≡ get_or all place x → steps_in (take (place + 1) all) ≡ steps_in (take place all) ++ x.step ∷ []
one-more all place x h e =
    rw (take_more all place x h, ← e) (map-append (λ (y : TranscriptStep). y.step) (take place all) (x ∷ []))

pub shorter : (all : List TranscriptStep) (place : ℕ) (x : TranscriptStep) (xs : List TranscriptStep) → drop place all ≡ x ∷ xs → place < length all
shorter all place x xs e =
    let a = ap length e in let b = length-drop place all in omega (arith, a, b)

-- the step at a place and the steps after it
pub at-place : (all : List TranscriptStep) (place : ℕ) (x : TranscriptStep) (xs : List TranscriptStep) → drop place all ≡ x ∷ xs → (x ≡ get_or all place x) × (xs ≡ drop (place + 1) all)
at-place all place x xs e = head-of x (get_or all place x) xs (drop (place + 1) all) (sym e ∙ drop_more all place x (shorter all place x xs e))

pub step-on : (sc sc' : Scenario) (book book' : BookView) (order : Order) (start : Shown) (all : List TranscriptStep) (place : ℕ) (x : TranscriptStep) (xs : List TranscriptStep) (found : Option NotShown) (state new : CoreState) → sc' ≡ sc → book' ≡ book → drop place all ≡ x ∷ xs
    → IsAt sc book order start (steps_in (take place all)) (drop place all) found state → step_result sc' book' state place x ≡ None → new ≡ step_leaves sc' book' state place x
    → IsAt sc book order start (steps_in (take (place + 1) all)) (drop (place + 1) all) found new
step-on sc sc' book book' order start all place x xs found state new es eb e h told leaves =
    let parts = at-place all place x xs e in
    let inside = shorter all place x xs e in
    let len : length (steps_in (take place all)) ≡ place = taken all place (omega (arith, inside)) in
    let h' : IsAt sc book order start (steps_in (take place all)) (x ∷ xs) found state = subst (λ (ys : List TranscriptStep). IsAt sc book order start (steps_in (take place all)) ys found state) e h in
    let told' : step_result sc book state (length (steps_in (take place all))) x ≡ None = ap (λ k. step_result sc book state k x) len ∙ (ap₂ (λ s b. step_result s b state place x) (sym es) (sym eb) ∙ told) in
    let leaves' : new ≡ step_leaves sc book state (length (steps_in (take place all))) x = leaves ∙ (ap₂ (λ s b. step_leaves s b state place x) es eb ∙ ap (λ k. step_leaves sc book state k x) (sym len)) in
    let next = (checked sc book order start (steps_in (take place all)) x xs found state h').none told' in
    subst (λ (ds : List Step). IsAt sc book order start ds (drop (place + 1) all) found new) (sym (one-more all place x inside parts.0))
    (subst (λ (ys : List TranscriptStep). IsAt sc book order start (steps_in (take place all) ++ x.step ∷ []) ys found new) parts.1
    (subst (λ z. IsAt sc book order start (steps_in (take place all) ++ x.step ∷ []) xs found z) (sym leaves') next))

none-why : (n : NotShown) → None ≡ Some n → ⊥
none-why n e = cc

pub explain : (r : ResumeErr) (told : Option ShownWhy) (step : ℕ) (found : Option NotShown) → Explains r (option_map (λ why. record { step = step; why = why }) told) → ((why : ShownWhy) → told ≡ Some why → found ≡ not_shown_at step why) → Explains r found
explain resume.NoMemory told step found e f = tt
explain (resume.NotShown s w) None step found e f = absurd (none-why (record { step = s; why = w }) e)
explain (resume.NotShown s w) (Some v) step found e f = f v refl ∙ e

pub step-off : (sc sc' : Scenario) (book book' : BookView) (order : Order) (start : Shown) (all : List TranscriptStep) (place : ℕ) (x : TranscriptStep) (xs : List TranscriptStep) (found : Option NotShown) (state : CoreState) (r : ResumeErr) → sc' ≡ sc → book' ≡ book → drop place all ≡ x ∷ xs
    → IsAt sc book order start (steps_in (take place all)) (drop place all) found state → Explains r (option_map (λ why. record { step = place + 1; why = why }) (step_result sc' book' state place x)) → Explains r found
step-off sc sc' book book' order start all place x xs found state r es eb e h told =
    let inside = shorter all place x xs e in
    let len : length (steps_in (take place all)) ≡ place = taken all place (omega (arith, inside)) in
    let h' : IsAt sc book order start (steps_in (take place all)) (x ∷ xs) found state = subst (λ (ys : List TranscriptStep). IsAt sc book order start (steps_in (take place all)) ys found state) e h in
    let same : step_result sc' book' state place x ≡ step_result sc book state (length (steps_in (take place all))) x = ap₂ (λ s b. step_result s b state place x) es eb ∙ ap (λ k. step_result sc book state k x) (sym len) in
    let c = checked sc book order start (steps_in (take place all)) x xs found state h' in
    explain r (step_result sc' book' state place x) (place + 1) found told
    (λ why q. c.some why (sym same ∙ q) ∙ ap (λ (k : ℕ). not_shown_at (k + 1) why) len)

-- ---- how the start is reported

pub not-some : (o : Option Shown) → is_some o ≡ false → o ≡ None
not-some None e = refl
not-some (Some x) e = absurd cc

some-there : (o : Option Shown) → is_some o ≡ true → is_none o ≡ false
some-there None e = absurd cc
some-there (Some x) e = refl

empty-is : (sc : Scenario) (book : BookView) (order : Order) (state : CoreState) (b : Bool) → state ≡ opening sc book order → is_empty_shown state.start ≡ b → is_empty (start_set sc) ≡ b
empty-is sc book order state b e h = sym (empty-start sc book) ∙ (ap is_empty_shown (sym (ap (λ z. z.start) e ∙ opened sc book order)) ∙ h)

pub empty-ok : (sc : Scenario) (book : BookView) (order : Order) (state : CoreState) (start : Shown) → state ≡ opening sc book order → start ≡ Empty → is_empty_shown state.start ≡ true → start_fault sc book start ≡ None
empty-ok sc book order state start e s h = ap (start_fault sc book) s ∙ ap (λ (b : Bool). unless b Kind None) (empty-is sc book order state true e h)

pub empty-stands : (sc : Scenario) (book : BookView) (order : Order) (state : CoreState) (start : Shown) → state ≡ opening sc book order → start ≡ Empty → is_empty_shown state.start ≡ true
    → (xs : List TranscriptStep) (found : Option NotShown) → steps_fault sc book 1 (after_start sc order start) (clock_tests sc order) xs ≡ found → IsAt sc book order start [] xs found state
empty-stands sc book order state start e s h xs found r =
    subst (λ (z : Shown). IsAt sc book order z [] xs found state) (sym s)
    (empty-at sc book order state xs found e (empty-is sc book order state true e h) (subst (λ (z : Shown). steps_fault sc book 1 (after_start sc order z) (clock_tests sc order) xs ≡ found) s r))

pub empty-why : (sc : Scenario) (book : BookView) (order : Order) (state : CoreState) (start : Shown) → state ≡ opening sc book order → start ≡ Empty → is_empty_shown state.start ≡ false → option_map NotValid (start_fault sc book start) ≡ Some (NotValid Kind)
empty-why sc book order state start e s h = ap (λ (z : Shown). option_map NotValid (start_fault sc book z)) s ∙ ap (λ (b : Bool). option_map NotValid (unless b Kind None)) (empty-is sc book order state false e h)

pub fit-unasked : (sc : Scenario) (book : BookView) (order : Order) (state : CoreState) (start : Shown) (delta : List (ℕ × ℕ)) → state ≡ opening sc book order → start ≡ Fits delta → is_some state.start ≡ true → option_map NotValid (start_fault sc book start) ≡ Some (NotValid Kind)
fit-unasked sc book order state start delta e s h =
    let none : is_none (start_unasked sc book) ≡ false = ap is_none (sym (ap (λ z. z.start) e ∙ opened sc book order)) ∙ some-there state.start h in
    ap (λ (z : Shown). option_map NotValid (start_fault sc book z)) s ∙ ap (λ (b : Bool). option_map NotValid (unless b Kind (fit_fault book (start_task sc 1) delta))) none

-- if the start test needs a query, the auction opens before it
before-is : (sc : Scenario) (book : BookView) (order : Order) (state : CoreState) → state ≡ opening sc book order → state.start ≡ None → (start_unasked sc book ≡ None) × (state ≡ before_start sc order)
before-is sc book order state e h =
    let none : start_unasked sc book ≡ None = sym (ap (λ z. z.start) e ∙ opened sc book order) ∙ h in
    (none, e ∙ unopened sc book order none)

fit-fault : (sc : Scenario) (book : BookView) (order : Order) (state : CoreState) (start : Shown) (delta : List (ℕ × ℕ)) → state ≡ opening sc book order → start ≡ Fits delta → state.start ≡ None → start_fault sc book start ≡ fit_fault book (start_task sc state.number) delta
fit-fault sc book order state start delta e s h =
    let before = before-is sc book order state e h in
    ap (start_fault sc book) s ∙ (ap (λ (o : Option Shown). unless (is_none o) Kind (fit_fault book (start_task sc 1) delta)) before.0 ∙ ap (λ z. fit_fault book (start_task sc z.number) delta) (sym before.1))

pub fit-ok : (sc : Scenario) (book : BookView) (order : Order) (state : CoreState) (start : Shown) (delta : List (ℕ × ℕ)) → state ≡ opening sc book order → start ≡ Fits delta → state.start ≡ None → fit_fault book (start_task sc state.number) delta ≡ None → start_fault sc book start ≡ None
fit-ok sc book order state start delta e s h none = fit-fault sc book order state start delta e s h ∙ none

pub fit-why : (sc : Scenario) (book : BookView) (order : Order) (state : CoreState) (start : Shown) (delta : List (ℕ × ℕ)) (r : StepErr) → state ≡ opening sc book order → start ≡ Fits delta → state.start ≡ None → IsStepFault r (option_map NotValid (fit_fault book (start_task sc state.number) delta)) → IsStepFault r (option_map NotValid (start_fault sc book start))
fit-why sc book order state start delta r e s h told = subst (λ o. IsStepFault r (option_map NotValid o)) (sym (fit-fault sc book order state start delta e s h)) told

pub fit-stands : (sc : Scenario) (book : BookView) (order : Order) (state new : CoreState) (start : Shown) (delta : List (ℕ × ℕ)) → state ≡ opening sc book order → start ≡ Fits delta → state.start ≡ None → new ≡ answered sc book state (Fits delta)
    → (xs : List TranscriptStep) (found : Option NotShown) → steps_fault sc book 1 (after_start sc order start) (clock_tests sc order) xs ≡ found → IsAt sc book order start [] xs found new
fit-stands sc book order state new start delta e s h n xs found r =
    let before = before-is sc book order state e h in
    subst (λ (z : Shown). IsAt sc book order z [] xs found new) (sym s)
    (fit-at sc book order new delta xs found (n ∙ ap (λ z. answered sc book z (Fits delta)) before.1) (subst (λ (z : Shown). steps_fault sc book 1 (after_start sc order z) (clock_tests sc order) xs ≡ found) s r))
