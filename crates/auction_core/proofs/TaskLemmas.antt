-- The current query: what it asks, where the clock is then, and what settles it. For `query_session`.
use Rattle.std.proofs.Common.{◌≡◌, ◌≢◌, ◌∙◌, ℕ, ◌+◌, ◌≤◌, Bool, true, false, not, cond, inl, inr, List, [], ◌∷◌, Option, Some, None, is_none, is_some, refl, sym, ap, subst, MatchOption}
use Rattle.std.specs.Prelude.{⊤}
use Rattle.std.proofs.lemmas.Bool.{both_ways, cases_Bool, cond-false, false≢true, true≢false}
use Rattle.pack_defs.specs.Book.{BookView}
use Rattle.pack_defs.specs.ClockRule.{ClockTest, asked_set}
use Rattle.pack_defs.specs.Lists.{is_ascending, is_empty}
use Rattle.pack_defs.specs.Scenario.{facilities}
use Rattle.pack_defs.specs.declared.scenario.Scenario.{Scenario}
use Rattle.pack_defs.proofs.Words.{ascending-from}
use Rattle.pack_defs.proofs.Chains.{ascending-filter}
use Rattle.cert_types.specs.Certificate.{IsTaskOf}
use Rattle.cert_types.specs.declared.task.Task.{Task}
use Rattle.auction_core.specs.declared.record.Shown.{Shown}
use Rattle.auction_core.specs.Backed.{IsSettledBy, IsStartShown, undecided_of}
use Rattle.auction_core.specs.QuerySession.{IsQuerySession}
use Rattle.auction_core.specs.ClockRun.{ClockRunView, IsAtRest, IsClockRun, IsDue, clock_of, core_state, left_of, next_test, tests_left, unasked_of}
use Rattle.auction_core.specs.ComponentLabels.{label_of, touched_set}
use Rattle.auction_core.specs.Rule.{IsQueryNext, KeepsTheRule, SettlesQuery}
use Rattle.auction_core.specs.Setup.{IsOfAuction, SetupView}
use Rattle.auction_core.specs.State.{CoreState, first_task, has_ended, start_fits, start_task, start_unasked, task_of, test_task, tested_set}
use Rattle.auction_core.proofs.Answers.{component-ascending}
use Rattle.auction_core.proofs.ClockRunLemmas.{sound-auction}
use Rattle.auction_core.proofs.ClockRunTests.{IsNextShown, due-left, over-empty}
use Rattle.auction_core.proofs.Keeps.{task-is}
use Rattle.auction_core.proofs.Touched.{touched-tested}
use Rattle.auction_core.proofs.Walk.{off-air, shown-number}

-- ---- how the start was settled

pub some-start : (o : Option Shown) → o ≢ None → is_none o ≡ false
some-start None h = absurd (h refl)
some-start (Some shown) h = refl

fits-some : (o : Option Shown) → start_fits o ≡ true → is_none o ≡ false
fits-some None h = absurd (false≢true h)
fits-some (Some shown) h = refl

-- what the check `is_some` of the start says
pub none-told : (o p : Option Shown) (b : Bool) → p ≡ o → is_some p ≡ not b → b ≡ true → o ≡ None
none-told o p b same e h = go o (ap is_some (sym same) ∙ (e ∙ ap not h))
  where
    go : (o : Option Shown) → is_some o ≡ false → o ≡ None
    go None k = refl
    go (Some shown) k = absurd (true≢false k)

pub some-told : (o p : Option Shown) (b : Bool) → p ≡ o → is_some p ≡ not b → b ≡ false → is_none o ≡ false
some-told o p b same e h = go o (ap is_some (sym same) ∙ (e ∙ ap not h))
  where
    go : (o : Option Shown) → is_some o ≡ true → is_none o ≡ false
    go None k = absurd (false≢true k)
    go (Some shown) k = refl

-- an auction that has ended has its start settled
pub ended-begun : (sc : Scenario) (state : CoreState) → has_ended state ≡ true → state.start ≢ None
ended-begun sc state e none = false≢true (sym (ap (λ o. cond (is_none o) false (is_empty state.left)) none) ∙ e)

-- ---- the query, by how the start was settled

pub task-start : (sc : Scenario) (book : BookView) (state : CoreState) → state.start ≡ None → Some (start_task sc state.number) ≡ task_of sc book state
task-start sc book state e = sym (task-is sc book state None state.left e refl)

pub task-ended : (sc : Scenario) (book : BookView) (state : CoreState) → has_ended state ≡ true → None ≡ task_of sc book state
task-ended sc book state e =
    let go : (o : Option Shown) (l : List ClockTest) → cond (is_none o) false (is_empty l) ≡ true → None ≡ cond (is_none o) (Some (start_task sc state.number)) (first_task sc book state l) = λ o l. elim o as (λ o. cond (is_none o) false (is_empty l) ≡ true → None ≡ cond (is_none o) (Some (start_task sc state.number)) (first_task sc book state l)) [
      | None ↦ λ k. absurd (false≢true k)
      | Some shown ↦ elim l as (λ l. is_empty l ≡ true → None ≡ first_task sc book state l) [
        | [] ↦ λ k. refl
        | t ∷ ts ↦ λ k. absurd (false≢true k)
      ]
    ] in
    go state.start state.left e ∙ sym (task-is sc book state state.start state.left refl refl)

-- without a current query the auction has ended
pub no-task : (sc : Scenario) (book : BookView) (state : CoreState) → has_ended state ≡ false → task_of sc book state ≡ None → ⊥
no-task sc book state on none =
    let go : (o : Option Shown) (l : List ClockTest) → cond (is_none o) false (is_empty l) ≡ false → cond (is_none o) (Some (start_task sc state.number)) (first_task sc book state l) ≡ None → ⊥ = λ o l. elim o as (λ o. cond (is_none o) false (is_empty l) ≡ false → cond (is_none o) (Some (start_task sc state.number)) (first_task sc book state l) ≡ None → ⊥) [
      | None ↦ λ h k. cc
      | Some shown ↦ elim l as (λ l. is_empty l ≡ false → first_task sc book state l ≡ None → ⊥) [
        | [] ↦ λ h k. absurd (true≢false h)
        | t ∷ ts ↦ λ h k. cc
      ]
    ] in
    go state.start state.left on (sym (task-is sc book state state.start state.left refl refl) ∙ none)

-- a fact that holds of the start's query and of each test's holds of the current query
pub task-has : (sc : Scenario) (book : BookView) (state : CoreState) (P : Task → Type 0) → P (start_task sc state.number) → ((t : ClockTest) → P (test_task sc book state t)) → (task : Task) → task_of sc book state ≡ Some task → P task
task-has sc book state P start test task e =
    let go : (o : Option Shown) (l : List ClockTest) → cond (is_none o) (Some (start_task sc state.number)) (first_task sc book state l) ≡ Some task → P task = λ o l. elim o as (λ o. cond (is_none o) (Some (start_task sc state.number)) (first_task sc book state l) ≡ Some task → P task) [
      | None ↦ λ k. let same : start_task sc state.number ≡ task = cc in subst P same start
      | Some shown ↦ elim l as (λ l. first_task sc book state l ≡ Some task → P task) [
        | [] ↦ λ k. cc
        | t ∷ ts ↦ λ k. let same : test_task sc book state t ≡ task = cc in subst P same (test t)
      ]
    ] in
    go state.start state.left (sym (task-is sc book state state.start state.left refl refl) ∙ e)

-- the check of an answer may be called for any query
pub task-ascends : (sc : Scenario) (book : BookView) (state : CoreState) → IsOfAuction sc book → MatchOption (task_of sc book state) ⊤ (IsTaskOf book)
unfolding task_of
task-ascends sc book state a =
    let rises : is_ascending (facilities sc) ≡ true = ascending-from (facilities sc) a.limits.ascend in
    let test : (l : List ClockTest) → MatchOption (first_task sc book state l) ⊤ (IsTaskOf book) = λ l. elim l as (λ l. MatchOption (first_task sc book state l) ⊤ (IsTaskOf book)) [
      | [] ↦ tt
      | t ∷ ts ↦ record { rises = component-ascending book (asked_set sc state.clock t.station) t.station (ascending-filter _ (facilities sc) rises) }
    ] in
    let go : (b : Bool) → MatchOption (cond b (Some (start_task sc state.number)) (first_task sc book state state.left)) ⊤ (IsTaskOf book) = λ b. elim b as (λ b. MatchOption (cond b (Some (start_task sc state.number)) (first_task sc book state state.left)) ⊤ (IsTaskOf book)) [
      | true ↦ record { rises = ascending-filter _ (facilities sc) rises }
      | false ↦ test state.left
    ] in
    go (is_none state.start)

-- ---- the query, in terms of the clock

-- the clock runs, and the next test is due and needs a query
pub record IsAtQuery (s : SetupView) (c : ClockRunView) : Type 0 where
  pub running : start_fits c.start ≡ true
  pub due : IsDue s c
  pub unasked : unasked_of s c ≡ None

-- a query after the start was settled is at a test that is due
next-query : (s : SetupView) (c : ClockRunView) (number : ℕ) → (start_fits c.start ≡ true → IsAtRest s c) → is_none c.start ≡ false → has_ended (core_state s c number) ≡ false → IsAtQuery s c
next-query s c number rest some on =
    let left : is_empty (left_of s c) ≡ false = sym (cond-false (is_none c.start) false (is_empty (left_of s c)) some) ∙ on in
    elim (cases_Bool (start_fits c.start)) [
      | inr idle ↦ absurd (both_ways (is_empty (left_of s c)) left (ap is_empty (cond-false (start_fits c.start) (tests_left s c.round c.place_in_round) [] idle)))
      | inl running ↦ elim (rest running) [
        | inl over ↦ absurd (both_ways (is_empty (left_of s c)) left (over-empty s c running over))
        | inr query ↦ record { running = running; due = query.0; unasked = query.1 }
      ]
    ]

pub standing-query : (s : SetupView) (c : ClockRunView) (number : ℕ) (state : CoreState) → IsQuerySession s c number → core_state s c number ≡ state → is_none c.start ≡ false → has_ended state ≡ false → IsAtQuery s c
standing-query s c number state h is some on = next-query s c number h.rest some (ap has_ended is ∙ on)

-- the current query is that of the next test
pub task-test : (s : SetupView) (c : ClockRunView) (number : ℕ) → IsClockRun s c → IsAtQuery s c → Some (test_task s.scenario s.book (core_state s c number) (next_test s c)) ≡ task_of s.scenario s.book (core_state s c number)
task-test s c number h q =
    sym (task-is s.scenario s.book (core_state s c number) c.start (next_test s c ∷ tests_left s c.round (c.place_in_round + 1)) refl (due-left s c q.running h q.due)
    ∙ cond-false (is_none c.start) _ _ (fits-some c.start q.running))

-- no label is above the number of the stations on air
pub labels-most : (s : SetupView) (c : ClockRunView) → IsClockRun s c → (z : ℕ) → label_of c.test_history.component_labels z ≤ c.test_history.on_air
labels-most s c h z = subst (λ n. label_of c.test_history.component_labels z ≤ n) (sym h.test_history.on_air) (h.test_history.component_labels.most z)

-- the labels determine what the next test asks about
pub query-set : (s : SetupView) (c : ClockRunView) → IsClockRun s c → IsAtQuery s c → touched_set s.book c.test_history.component_labels (next_test s c).station ≡ tested_set s.scenario s.book (clock_of s c) (next_test s c).station
query-set s c h q =
    let a = sound-auction s h.sound in
    let r = h.rule q.running in
    let off = off-air s.scenario s.book (undecided_of c.test_history.steps) r.before (clock_of s c) a r.progress.clock (next_test s c).station q.due.active in
    touched-tested s.scenario s.book (clock_of s c) (next_test s c).station c.test_history.component_labels a off.0 off.1 h.test_history.component_labels

-- ---- what settles the query

-- a start that needs no query is properly settled without one
pub bare-shown : (sc : Scenario) (book : BookView) (shown : Shown) → start_unasked sc book ≡ Some shown → IsStartShown sc book shown
bare-shown sc book shown e = subst (λ o. MatchOption o (IsSettledBy sc book (start_task sc 1) shown) (λ unasked. shown ≡ unasked)) (sym e) refl

-- what settles the start's query settles the start properly
pub start-shown : (sc : Scenario) (book : BookView) (state : CoreState) (shown : Shown) → state.start ≡ None → KeepsTheRule sc book state → SettlesQuery sc book state shown → IsStartShown sc book shown
start-shown sc book state shown fresh k settles =
    let task : task_of sc book state ≡ Some (start_task sc state.number) = task-is sc book state None state.left fresh refl in
    let by : IsSettledBy sc book (start_task sc state.number) shown = subst (λ o. MatchOption o ⊥ (λ task. IsSettledBy sc book task shown)) task settles in
    let asked : start_unasked sc book ≡ None = subst (λ o. MatchOption o (start_unasked sc book ≡ None) (λ start. IsQueryNext sc book state state.left)) fresh k.query in
    subst (λ o. MatchOption o (IsSettledBy sc book (start_task sc 1) shown) (λ unasked. shown ≡ unasked)) (sym asked) (shown-number sc book (start_task sc state.number) 1 shown by)

-- what settles the next test's query settles its step properly
pub step-shown : (s : SetupView) (c : ClockRunView) (number : ℕ) (shown : Shown) → IsClockRun s c → IsAtQuery s c → SettlesQuery s.scenario s.book (core_state s c number) shown → IsNextShown s c shown
step-shown s c number shown h q settles =
    let t = next_test s c in
    let task : Task = test_task s.scenario s.book (core_state s c number) t in
    let by : IsSettledBy s.scenario s.book task shown = subst (λ o. MatchOption o ⊥ (λ task. IsSettledBy s.scenario s.book task shown)) (sym (task-test s c number h q)) settles in
    subst (λ o. MatchOption o (IsSettledBy s.scenario s.book (test_task s.scenario s.book (core_state s c 0) t) shown) (λ unasked. shown ≡ unasked)) (sym q.unasked) (shown-number s.scenario s.book task 0 shown by)
