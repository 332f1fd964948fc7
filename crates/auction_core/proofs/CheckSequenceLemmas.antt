-- The auction that a transcript's steps settle, and the walk that looks for the first step that is not certified, side by side.
use Rattle.std.proofs.Common.{◌≡◌, ℕ, ◌+◌, Bool, true, false, if◌then◌else◌, List, [], ◌∷◌, ◌++◌, length, Option, Some, None, option_map, refl, sym, ap, ◌∙◌, arith, inl, inr, append_assoc}
use Rattle.std.specs.Prelude.{slice_get}
use Rattle.std.specs.Option.{option_map_or}
use Rattle.std.proofs.lemmas.Bool.{both_ways}
use Rattle.std.proofs.lemmas.List.{length_push, length-append}
use Rattle.std.proofs.lemmas.Option.{slice_get_past}
use Rattle.pack_defs.specs.declared.scenario.Scenario.{Scenario}
use Rattle.pack_defs.specs.Book.{BookView}
use Rattle.pack_defs.specs.declared.order.Order.{Order}
use Rattle.pack_defs.specs.Lists.{is_empty}
use Rattle.pack_defs.specs.ClockRule.{ClockTest, clock_tests}
use Rattle.cert_types.specs.declared.answer.Place.{Place}
use Rattle.cert_types.specs.declared.task.Task.{Task}
use Rattle.auction_core.specs.declared.record.Shown.{Shown}
use Rattle.auction_core.specs.declared.record.Step.{Step}
use Rattle.auction_core.specs.State.{CoreState, settled, settled_unasked, advance_to_query, answered, first_task, task_of, test_of, test_task, has_ended}
use Rattle.auction_core.proofs.Continues.{go-on-goes}
use Rattle.auction_core.proofs.Sets.{step_of}
use Rattle.auction_core.specs.declared.transcript.TranscriptStep.{TranscriptStep}
use Rattle.auction_core.specs.declared.prefix.ShownWhy.{ShownWhy}
use Rattle.auction_core.specs.declared.prefix.ShownWhy.TheVariants.{NotValid}
use Rattle.auction_core.specs.declared.prefix.ShownWhy.TheVariants as Why
use Rattle.auction_core.specs.Backed.{after_start}
use Rattle.auction_core.specs.Prefix.{replay_tests, queries_taken, took_query}
use Rattle.auction_core.specs.Checked.{IsAt, unasked_result, task_result, query_result, step_result, step_leaves}
use Rattle.auction_core.specs.NotShown.{NotShown, query_fault, unasked_fault, step_fault, next_asked, step_fault_or, is_test, not_shown_at, steps_fault}
use Rattle.auction_core.proofs.StepLemmas.{unasked-shown}
use Rattle.auction_core.proofs.WalkLemmas.{same-tests}
use Rattle.auction_core.proofs.ContinueLemmas.{IsUnasked, IsStop, goes-on}
use Rattle.auction_core.proofs.NumberLemmas.{steps-beside}
use Rattle.auction_core.proofs.ReplayTestsLemmas.{taken-more, through-next, took-none, took-query}

-- what the check of the next step reports
pub record IsChecked (sc : Scenario) (book : BookView) (order : Order) (start : Shown) (done : List Step) (x : TranscriptStep) (xs : List TranscriptStep) (found : Option NotShown) (state : CoreState) (told : Option ShownWhy) (leaves : CoreState) : Type 0 where
  pub none : told ≡ None → IsAt sc book order start (done ++ x.step ∷ []) xs found leaves
  pub some : (why : ShownWhy) → told ≡ Some why → found ≡ not_shown_at (length done + 1) why

slice-at : (done more : List Step) (y : Step) → slice_get ((done ++ y ∷ []) ++ more) (length done) ≡ Some y
slice-at [] more y = refl
slice-at (z ∷ done) more y = slice-at done more y

absurd-none : (why : ShownWhy) → Some why ≡ None → ⊥
absurd-none why e = cc

why-is : (a b : ShownWhy) → Some a ≡ Some b → a ≡ b
why-is a b e = cc

no-why : (why : ShownWhy) → None ≡ Some why → ⊥
no-why why e = cc

-- the two ways to report a step's fault agree
fault-same : (test : Bool) (fault : Option Place) (step : ℕ) (more : Option NotShown) → (if test then option_map NotValid fault else Some Why.Order) ≡ None
    → (test ≡ true) × (fault ≡ None) × ((if test then step_fault_or step fault more else not_shown_at step Why.Order) ≡ more)
fault-same true None step more e = (refl, refl, refl)
fault-same true (Some place) step more e = absurd (absurd-none (NotValid place) e)
fault-same false fault step more e = absurd (absurd-none Why.Order e)

fault-why : (test : Bool) (fault : Option Place) (step : ℕ) (more : Option NotShown) (why : ShownWhy) → (if test then option_map NotValid fault else Some Why.Order) ≡ Some why
    → (if test then step_fault_or step fault more else not_shown_at step Why.Order) ≡ not_shown_at step why
fault-why true None step more why e = absurd (no-why why e)
fault-why true (Some place) step more why e = ap (not_shown_at step) (why-is (NotValid place) why e)
fault-why false fault step more why e = ap (not_shown_at step) (why-is Why.Order why e)

-- the fault counts only if the test is the step's
in-true : (b : Bool) (step : ℕ) (f g : Option Place) (more : Option NotShown) → (b ≡ true → f ≡ g) → (if b then step_fault_or step f more else not_shown_at step Why.Order) ≡ (if b then step_fault_or step g more else not_shown_at step Why.Order)
in-true true step f g more h = ap (λ (o : Option Place). step_fault_or step o more) (h refl)
in-true false step f g more h = refl

-- the walk at a step whose test is the next one asked
at-next : (sc : Scenario) (book : BookView) (step : ℕ) (at : CoreState) (left : List ClockTest) (t : ClockTest) (rest : List ClockTest) (x : TranscriptStep) (xs : List TranscriptStep) → next_asked at.clock left ≡ t ∷ rest
    → steps_fault sc book step at left (x ∷ xs) ≡ (if is_test t x then step_fault_or step (step_fault sc book at x) (steps_fault sc book (step + 1) (settled sc at (test_of x.step) x.step.shown) rest xs) else not_shown_at step Why.Order)
unfolding steps_fault
at-next sc book step at left t rest x xs e = rw e refl

longer : (done : List Step) (x : Step) → length (done ++ x ∷ []) + 1 ≡ length done + 1 + 1
longer done x = let e = length_push done x in omega (arith, e)

uncounted : (start : Shown) (done : List Step) (x : Step) → took_query x.shown ≡ false → 1 + queries_taken start done ≡ 1 + queries_taken start (done ++ x ∷ [])
uncounted start done x e = let more = taken-more start done x false e in omega (arith, more)

counted-on : (start : Shown) (done : List Step) (x : Step) → took_query x.shown ≡ true → 1 + queries_taken start done + 1 ≡ 1 + queries_taken start (done ++ x ∷ [])
counted-on start done x e = let more = taken-more start done x true e in omega (arith, more)

-- going through the steps after one more step
further : (sc : Scenario) (book : BookView) (order : Order) (start : Shown) (done : List Step) (x : Step) (more : List Step) (left : List ClockTest) (t : ClockTest) (rest : List ClockTest) (at : CoreState) (n : ℕ) (l : List ClockTest) → next_asked at.clock left ≡ t ∷ rest → t ≡ test_of x
    → replay_tests sc book (clock_tests sc order) (done ++ x ∷ more) (record (after_start sc order start) { number = n }) ≡ replay_tests sc book left (x ∷ more) (record at { left = l; noted = []; number = n })
    → replay_tests sc book (clock_tests sc order) ((done ++ x ∷ []) ++ more) (record (after_start sc order start) { number = n }) ≡ replay_tests sc book rest more (record (settled sc at (test_of x) x.shown) { left = l; noted = []; number = n })
further sc book order start done x more left t rest at n l asked same h =
    let here : CoreState = record at { left = l; noted = []; number = n } in
    ap (λ (ys : List Step). replay_tests sc book (clock_tests sc order) ys (record (after_start sc order start) { number = n })) (append_assoc done (x ∷ []) more)
    ∙ (h ∙ (through-next sc book left t rest x more here asked ∙ ap (λ (v : ClockTest). replay_tests sc book rest more (settled sc here v x.shown)) same))

unasked : (sc : Scenario) (book : BookView) (order : Order) (start : Shown) (done : List Step) (x : TranscriptStep) (xs : List TranscriptStep) (found : Option NotShown) (state : CoreState) (a : IsAt sc book order start done (x ∷ xs) found state) → IsUnasked sc book a.left a.at
    → IsChecked sc book order start done x xs found state (step_result sc book state (length done) x) (step_leaves sc book state (length done) x)
unasked sc book order start done x xs found state a u =
    let own : Step = step_of u.test u.own in
    let step = length done + 1 in
    let adds = go-on-goes sc book u.rest (settled sc a.at u.test u.own) in
    let goes : state ≡ advance_to_query sc book u.rest (settled sc a.at u.test u.own) = a.goes ∙ u.goes in
    let all : state.steps ≡ (done ++ own ∷ []) ++ adds.more = ap (λ s. s.steps) goes ∙ (adds.steps ∙ ap (λ (ys : List Step). (ys ++ own ∷ []) ++ adds.more) a.steps) in
    let here : slice_get state.steps (length done) ≡ Some own = ap (λ (ys : List Step). slice_get ys (length done)) all ∙ slice-at done adds.more own in
    let fault : Option Place = unasked_fault x u.own in
    let more : Option NotShown = steps_fault sc book (step + 1) (settled sc a.at (test_of x.step) x.step.shown) u.rest xs in
    let told-is : step_result sc book state (length done) x ≡ unasked_result own x = ap (λ (o : Option Step). option_map_or (λ own. unasked_result own x) o (query_result sc book state x)) here in
    let leaves-is : step_leaves sc book state (length done) x ≡ state = ap (λ (o : Option Step). option_map_or (λ own. state) o (answered sc book state x.step.shown)) here in
    let walk : found ≡ (if is_test u.test x then step_fault_or step (step_fault sc book a.at x) more else not_shown_at step Why.Order) = sym a.rest ∙ at-next sc book step a.at a.left u.test u.rest x xs u.asked in
    let own-fault : (is_test u.test x ≡ true) → step_fault sc book a.at x ≡ fault = λ same.
    let so : settled_unasked sc book a.at (test_of x.step) ≡ Some u.own = ap (settled_unasked sc book a.at) (sym (same-tests u.test x same)) ∙ u.so in
    ap (λ (o : Option Shown). option_map_or (unasked_fault x) o (query_fault sc book (test_task sc book a.at (test_of x.step)) x.step.shown x.firsts)) so in
    let found-is : found ≡ (if is_test u.test x then step_fault_or step fault more else not_shown_at step Why.Order) = walk ∙ in-true (is_test u.test x) step (step_fault sc book a.at x) fault more own-fault in
    record {
      none = λ e.
          let parts = fault-same (is_test u.test x) fault step more (sym told-is ∙ e) in
          let t-is : u.test ≡ test_of x.step = same-tests u.test x parts.0 in
          let shown-is : x.step.shown ≡ u.own = (unasked-shown x u.own parts.1).0 in
          record {
            at = settled sc a.at (test_of x.step) x.step.shown;
            left = u.rest;
            goes = leaves-is ∙ (goes ∙ (ap (λ (v : ClockTest). advance_to_query sc book u.rest (settled sc a.at v u.own)) t-is ∙ ap (λ (z : Shown). advance_to_query sc book u.rest (settled sc a.at (test_of x.step) z)) (sym shown-is)));
            turned = a.turned;
            steps = ap (λ (ys : List Step). ys ++ x.step ∷ []) a.steps;
            begun = a.begun;
            counted = a.counted ∙ uncounted start done x.step (ap took_query shown-is ∙ took-none sc book a.at u.test u.own u.so);
            quiet = a.quiet;
            through = λ more n l. further sc book order start done x.step more a.left u.test u.rest a.at n l u.asked t-is (a.through (x.step ∷ more) n l);
            rest = ap (λ (k : ℕ). steps_fault sc book k (settled sc a.at (test_of x.step) x.step.shown) u.rest xs) (longer done x.step) ∙ sym (found-is ∙ parts.2);
          };
      some = λ why e. found-is ∙ fault-why (is_test u.test x) fault step more why (sym told-is ∙ e);
    }

-- the walk at a step when no test is left
at-end : (sc : Scenario) (book : BookView) (step : ℕ) (at : CoreState) (left : List ClockTest) (x : TranscriptStep) (xs : List TranscriptStep) → next_asked at.clock left ≡ []
    → steps_fault sc book step at left (x ∷ xs) ≡ not_shown_at step Why.Order
unfolding steps_fault
at-end sc book step at left x xs e = rw e refl

-- ---- at a query, or at the end

-- the query at which the auction has stopped
stopped-task : (sc : Scenario) (book : BookView) (at : CoreState) (left : List ClockTest) (start : Shown) → at.start ≡ Some start → task_of sc book (record at { left = left }) ≡ first_task sc book at left
unfolding task_of
stopped-task sc book at [] start e = rw e refl
stopped-task sc book at (t ∷ ts) start e = rw e refl

-- the state once that query is settled
stopped-answer : (sc : Scenario) (book : BookView) (at : CoreState) (t : ClockTest) (ts : List ClockTest) (start shown : Shown) → at.start ≡ Some start
    → answered sc book (record at { left = t ∷ ts }) shown ≡ advance_to_query sc book ts (settled sc (record at { left = t ∷ ts; noted = []; number = at.number + 1 }) t shown)
stopped-answer sc book at t ts start shown e = rw e refl

stopped : (sc : Scenario) (book : BookView) (order : Order) (start : Shown) (done : List Step) (x : TranscriptStep) (xs : List TranscriptStep) (found : Option NotShown) (state : CoreState) (a : IsAt sc book order start done (x ∷ xs) found state) → IsStop sc book a.left a.at
    → IsChecked sc book order start done x xs found state (step_result sc book state (length done) x) (step_leaves sc book state (length done) x)
stopped sc book order start done x xs found state a s =
    let step = length done + 1 in
    let state-is : state ≡ record a.at { left = next_asked a.at.clock a.left } = a.goes ∙ s.stops in
    let steps-is : state.steps ≡ done = ap (λ z. z.steps) state-is ∙ a.steps in
    let none-here : slice_get state.steps (length done) ≡ None = ap (λ (ys : List Step). slice_get ys (length done)) steps-is ∙ slice_get_past done (length done) (omega arith) in
    let told-is : step_result sc book state (length done) x ≡ query_result sc book state x = ap (λ (o : Option Step). option_map_or (λ own. unasked_result own x) o (query_result sc book state x)) none-here in
    let leaves-is : step_leaves sc book state (length done) x ≡ answered sc book state x.step.shown = ap (λ (o : Option Step). option_map_or (λ own. state) o (answered sc book state x.step.shown)) none-here in
    go (next_asked a.at.clock a.left) refl state-is told-is leaves-is
  where
    step' : ℕ
    step' = length done + 1

    Claim : Type 0
    Claim = IsChecked sc book order start done x xs found state (step_result sc book state (length done) x) (step_leaves sc book state (length done) x)

    go : (left : List ClockTest) → next_asked a.at.clock a.left ≡ left → state ≡ record a.at { left = left }
        → step_result sc book state (length done) x ≡ query_result sc book state x → step_leaves sc book state (length done) x ≡ answered sc book state x.step.shown → Claim
    go [] left-is state-is told-is leaves-is =
        let task : task_of sc book state ≡ None = ap (task_of sc book) state-is ∙ stopped-task sc book a.at [] start a.begun in
        let told : query_result sc book state x ≡ Some Why.Order = ap (λ (o : Option Task). option_map_or (λ task. task_result sc book task x) o (Some Why.Order)) task in
        record {
          none = λ e. absurd (absurd-none Why.Order (sym told ∙ (sym told-is ∙ e)));
          some = λ why e. sym a.rest ∙ (at-end sc book step' a.at a.left x xs left-is ∙ ap (not_shown_at step') (why-is Why.Order why (sym told ∙ (sym told-is ∙ e))));
        }
    go (t ∷ ts) left-is state-is told-is leaves-is =
        let task : task_of sc book state ≡ Some (test_task sc book a.at t) = ap (task_of sc book) state-is ∙ stopped-task sc book a.at (t ∷ ts) start a.begun in
        let fault : Option Place = query_fault sc book (test_task sc book a.at t) x.step.shown x.firsts in
        let told : query_result sc book state x ≡ (if is_test t x then option_map NotValid fault else Some Why.Order) = ap (λ (o : Option Task). option_map_or (λ task. task_result sc book task x) o (Some Why.Order)) task in
        let more : Option NotShown = steps_fault sc book (step' + 1) (settled sc a.at (test_of x.step) x.step.shown) ts xs in
        let query : is_test t x ≡ true → step_fault sc book a.at x ≡ fault = λ same.
        let t-is = same-tests t x same in
        let none : settled_unasked sc book a.at (test_of x.step) ≡ None = ap (settled_unasked sc book a.at) (sym t-is) ∙ s.query t ts left-is in
        ap (λ (o : Option Shown). option_map_or (unasked_fault x) o (query_fault sc book (test_task sc book a.at (test_of x.step)) x.step.shown x.firsts)) none
        ∙ ap (λ (v : ClockTest). query_fault sc book (test_task sc book a.at v) x.step.shown x.firsts) (sym t-is) in
        let found-is : found ≡ (if is_test t x then step_fault_or step' fault more else not_shown_at step' Why.Order) =
        sym a.rest ∙ (at-next sc book step' a.at a.left t ts x xs left-is ∙ in-true (is_test t x) step' (step_fault sc book a.at x) fault more query) in
        record {
          none = λ e.
              let parts = fault-same (is_test t x) fault step' more (sym told ∙ (sym told-is ∙ e)) in
              let t-is : t ≡ test_of x.step = same-tests t x parts.0 in
              let next : CoreState = record a.at { left = t ∷ ts; noted = []; number = a.at.number + 1 } in
              record {
                at = settled sc next (test_of x.step) x.step.shown;
                left = ts;
                goes = leaves-is ∙ (ap (λ z. answered sc book z x.step.shown) state-is ∙ (stopped-answer sc book a.at t ts start x.step.shown a.begun ∙ ap (λ (v : ClockTest). advance_to_query sc book ts (settled sc next v x.step.shown)) t-is));
                turned = a.turned;
                steps = ap (λ (ys : List Step). ys ++ x.step ∷ []) a.steps;
                begun = a.begun;
                counted = ap (λ k. k + 1) a.counted ∙ counted-on start done x.step (took-query sc book (test_task sc book a.at t) x.step.shown x.firsts parts.1);
                quiet = refl;
                through = λ more n l. further sc book order start done x.step more a.left t ts a.at n l left-is t-is (a.through (x.step ∷ more) n l);
                rest = steps-beside sc book (length (done ++ x.step ∷ []) + 1) (settled sc a.at (test_of x.step) x.step.shown) (settled sc next (test_of x.step) x.step.shown) ts xs
                    ∙ (ap (λ (k : ℕ). steps_fault sc book k (settled sc a.at (test_of x.step) x.step.shown) ts xs) (longer done x.step) ∙ sym (found-is ∙ parts.2));
              };
          some = λ why e. found-is ∙ fault-why (is_test t x) fault step' more why (sym told ∙ (sym told-is ∙ e));
        }

-- the check of the next step
pub checked : (sc : Scenario) (book : BookView) (order : Order) (start : Shown) (done : List Step) (x : TranscriptStep) (xs : List TranscriptStep) (found : Option NotShown) (state : CoreState) → IsAt sc book order start done (x ∷ xs) found state
    → IsChecked sc book order start done x xs found state (step_result sc book state (length done) x) (step_leaves sc book state (length done) x)
checked sc book order start done x xs found state a = elim (goes-on sc book a.left a.at) [
  | inl u ↦ unasked sc book order start done x xs found state a u
  | inr s ↦ stopped sc book order start done x xs found state a s
]

-- ---- the end

-- the steps are complete and the auction has ended, or a step is missing
pub record IsEndChecked (order : Order) (start : Shown) (done : List Step) (found : Option NotShown) (state : CoreState) : Type 0 where
  pub all : has_ended state ≡ true → length state.steps ≡ length done → (found ≡ None) × (state.steps ≡ done) × (state.start ≡ Some start) × (state.order ≡ order)
  pub running : has_ended state ≡ false → found ≡ not_shown_at (length done + 1) Why.Order
  pub missing : (length state.steps ≡ length done → ⊥) → found ≡ not_shown_at (length done + 1) Why.Order

end-asked : (sc : Scenario) (book : BookView) (step : ℕ) (at : CoreState) (left : List ClockTest) (t : ClockTest) (rest : List ClockTest) → next_asked at.clock left ≡ t ∷ rest → steps_fault sc book step at left [] ≡ not_shown_at step Why.Order
unfolding steps_fault
end-asked sc book step at left t rest e = rw e refl

end-none : (sc : Scenario) (book : BookView) (step : ℕ) (at : CoreState) (left : List ClockTest) → next_asked at.clock left ≡ [] → steps_fault sc book step at left [] ≡ None
unfolding steps_fault
end-none sc book step at left e = rw e refl

stopped-ended : (at : CoreState) (left : List ClockTest) (start : Shown) → at.start ≡ Some start → has_ended (record at { left = left }) ≡ is_empty left
stopped-ended at left start e = rw e refl

no-less : (done more : List Step) (y : Step) → length ((done ++ y ∷ []) ++ more) ≡ length done → ⊥
no-less done more y e = let a = length-append (done ++ y ∷ []) more in let b = length_push done y in absurd (omega (arith, a, b, e))

from-unasked : (sc : Scenario) (book : BookView) (order : Order) (start : Shown) (done : List Step) (found : Option NotShown) (state : CoreState) (a : IsAt sc book order start done [] found state) → IsUnasked sc book a.left a.at → IsEndChecked order start done found state
from-unasked sc book order start done found state a u =
    let own : Step = step_of u.test u.own in
    let adds = go-on-goes sc book u.rest (settled sc a.at u.test u.own) in
    let goes = a.goes ∙ u.goes in
    let all : state.steps ≡ (done ++ own ∷ []) ++ adds.more = ap (λ s. s.steps) goes ∙ (adds.steps ∙ ap (λ (ys : List Step). (ys ++ own ∷ []) ++ adds.more) a.steps) in
    let missing : found ≡ not_shown_at (length done + 1) Why.Order = sym a.rest ∙ end-asked sc book (length done + 1) a.at a.left u.test u.rest u.asked in
    record { all = λ ended same. absurd (no-less done adds.more own (sym (ap length all) ∙ same)); running = λ e. missing; missing = λ e. missing }

from-stop : (sc : Scenario) (book : BookView) (order : Order) (start : Shown) (done : List Step) (found : Option NotShown) (state : CoreState) (a : IsAt sc book order start done [] found state) → IsStop sc book a.left a.at → IsEndChecked order start done found state
from-stop sc book order start done found state a s = go (next_asked a.at.clock a.left) refl (a.goes ∙ s.stops)
  where
    go : (left : List ClockTest) → next_asked a.at.clock a.left ≡ left → state ≡ record a.at { left = left } → IsEndChecked order start done found state
    go [] left-is state-is =
        let steps-is : state.steps ≡ done = ap (λ z. z.steps) state-is ∙ a.steps in
        let ended : has_ended state ≡ true = ap has_ended state-is ∙ stopped-ended a.at [] start a.begun in
        record {
          all = λ e same. (sym a.rest ∙ end-none sc book (length done + 1) a.at a.left left-is, steps-is, ap (λ z. z.start) state-is ∙ a.begun, ap (λ z. z.order) state-is ∙ a.turned);
          running = λ e. absurd (both_ways (has_ended state) e ended);
          missing = λ other. absurd (other (ap length steps-is));
        }
    go (t ∷ ts) left-is state-is =
        let running : has_ended state ≡ false = ap has_ended state-is ∙ stopped-ended a.at (t ∷ ts) start a.begun in
        let missing : found ≡ not_shown_at (length done + 1) Why.Order = sym a.rest ∙ end-asked sc book (length done + 1) a.at a.left t ts left-is in
        record { all = λ e same. absurd (both_ways (has_ended state) running e); running = λ e. missing; missing = λ other. missing }

pub end-checked : (sc : Scenario) (book : BookView) (order : Order) (start : Shown) (done : List Step) (found : Option NotShown) (state : CoreState) → IsAt sc book order start done [] found state → IsEndChecked order start done found state
end-checked sc book order start done found state a = elim (goes-on sc book a.left a.at) [
  | inl u ↦ from-unasked sc book order start done found state a u
  | inr s ↦ from-stop sc book order start done found state a s
]
