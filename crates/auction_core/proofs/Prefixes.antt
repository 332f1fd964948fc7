-- The state after some first steps keeps the clock rule. For `laws` and `auction::resume`.
use Rattle.std.proofs.Common.{◌≡◌, ℕ, suc, ◌+◌, Bool, true, false, if◌then◌else◌, List, [], ◌∷◌, ◌++◌, map, length, take, drop, Option, Some, None, refl, sym, ap, ◌∙◌, subst, append_assoc, append-nil}
use Rattle.std.specs.Option.{option_map_or}
use Rattle.std.proofs.lemmas.Bool.{both_ways}
use Rattle.std.proofs.lemmas.List.{take-append-drop}
use Rattle.pack_defs.specs.Book.{BookView}
use Rattle.pack_defs.specs.declared.order.Order.{Order}
use Rattle.pack_defs.specs.declared.scenario.Scenario.{Scenario}
use Rattle.pack_defs.specs.ClockRule.{ClockTest, clock_tests, opening_state, is_active, after_test, asked_from, asked_tests}
use Rattle.pack_defs.proofs.Members.{Contains-here, Contains-there}
use Rattle.pack_defs.proofs.TestOrder.{TestsApart, clock_apart}
use Rattle.auction_core.specs.declared.record.Shown.{Shown}
use Rattle.auction_core.specs.declared.record.Step.{Step}
use Rattle.auction_core.specs.State.{CoreState, test_of, shows_room, settled, advance_to_query, started, before_start, start_unasked, opening}
use Rattle.auction_core.specs.Backed.{undecided_of, AreShown, after_start}
use Rattle.auction_core.specs.Rule.{IsAuction}
use Rattle.auction_core.specs.Postings.{Continues}
use Rattle.auction_core.specs.Prefix.{IsPrefix, queries_taken, replay_tests, resumed}
use Rattle.auction_core.specs.ClockProgress.{IsClockProgress}
use Rattle.auction_core.proofs.Kept.{IsAtStart, IsUnderWay, IsKept, in-case}
use Rattle.auction_core.proofs.Walk.{IsStepShown-same, ready, walk-step, walk-skip, go-on-keeps}
use Rattle.auction_core.proofs.Done.{asked-apart, apart-first, AreListed, listed-shown, step-moves}
use Rattle.auction_core.proofs.Keeps.{first-walk, from-parts, none-noted, go-on-start, opening-keeps}
use Rattle.auction_core.proofs.Continues.{goes-self, goes-same, goes-then, go-on-goes, started-goes}

-- the state is where the rule leads, and its steps begin with these
abbrev Through : Scenario → BookView → Shown → CoreState → List Step → CoreState → Type 0
Through sc book start state xs new = IsUnderWay sc book start new × Continues (record state { steps = state.steps ++ xs }) new

-- going through tests with the steps of those that the rule asks leads to where the rule leads
through : (sc : Scenario) (book : BookView) (start : Shown) (U ts : List ClockTest) (xs : List Step) (state : CoreState) (before : List ClockTest) → IsAuction sc book → IsClockProgress sc book start state before → clock_tests sc state.order ≡ before ++ ts →
    map test_of xs ≡ take (length xs) (asked_from sc book U ts state.clock) → AreShown sc book state xs → AreListed U xs →
    Through sc book start state xs (replay_tests sc book ts xs state)
through sc book start U ts [] state before a w parts tests shown listed = (
  go-on-keeps sc book start ts state before a w parts,
  goes-then (record state { steps = state.steps ++ [] }) state (advance_to_query sc book ts state) (goes-same (record state { steps = state.steps ++ [] }) state refl refl (sym (append-nil state.steps))) (go-on-goes sc book ts state),
)
through sc book start U [] (x ∷ xs) state before a w parts tests shown listed = cc
through sc book start U (t ∷ ts) (x ∷ xs) state before a w parts tests shown listed =
    let first : is_active state.clock x.station ≡ true → clock_tests sc state.order ≡ before ++ test_of x ∷ ts → map test_of xs ≡ take (length xs) (asked_from sc book U ts (after_test sc book U state.clock (test_of x))) → Through sc book start state (x ∷ xs) (replay_tests sc book ts xs (settled sc state (test_of x) x.shown)) = λ active p m.
    let next : CoreState = settled sc state (test_of x) x.shown in
    let r = ready sc book (undecided_of state.steps) before state x.station a w.clock (w.clean, w.stations) active in
    let moved : next.clock ≡ after_test sc book U state.clock (test_of x) = step-moves sc book U state x r w.fits active shown.0 (listed x (Contains-here x xs)) in
    let rest = through sc book start U ts xs next (before ++ test_of x ∷ []) a (walk-step sc book start state before ts (test_of x) x.shown a w p active shown.0) (p ∙ sym (append_assoc before (test_of x ∷ []) ts))
    (m ∙ ap (λ c. take (length xs) (asked_from sc book U ts c)) (sym moved)) shown.1 (λ y c. listed y (Contains-there x y xs c)) in (
      rest.0,
      goes-then (record state { steps = state.steps ++ x ∷ xs }) (record next { steps = next.steps ++ xs }) (replay_tests sc book ts xs next)
          (goes-same (record state { steps = state.steps ++ x ∷ xs }) (record next { steps = next.steps ++ xs }) refl refl (append_assoc state.steps (x ∷ []) xs)) rest.1,
    ) in
    let go : (b : Bool) → is_active state.clock t.station ≡ b → test_of x ∷ map test_of xs ≡ take (suc (length xs)) (if b then t ∷ asked_from sc book U ts (after_test sc book U state.clock t) else asked_from sc book U ts state.clock) →
    Through sc book start state (x ∷ xs) (if b then replay_tests sc book ts xs (settled sc state t x.shown) else replay_tests sc book ts (x ∷ xs) state) = λ b. elim b as (λ b. is_active state.clock t.station ≡ b → test_of x ∷ map test_of xs ≡ take (suc (length xs)) (if b then t ∷ asked_from sc book U ts (after_test sc book U state.clock t) else asked_from sc book U ts state.clock) →
    Through sc book start state (x ∷ xs) (if b then replay_tests sc book ts xs (settled sc state t x.shown) else replay_tests sc book ts (x ∷ xs) state)) [
      | true ↦ λ active m.
          let same : test_of x ≡ t = cc in
          let later : map test_of xs ≡ take (length xs) (asked_from sc book U ts (after_test sc book U state.clock t)) = cc in
          (subst (λ u. is_active state.clock u.station ≡ true → clock_tests sc state.order ≡ before ++ u ∷ ts → map test_of xs ≡ take (length xs) (asked_from sc book U ts (after_test sc book U state.clock u)) → Through sc book start state (x ∷ xs) (replay_tests sc book ts xs (settled sc state u x.shown))) same first)
          active parts later
      | false ↦ λ idle m. through sc book start U ts (x ∷ xs) state (before ++ t ∷ []) a (walk-skip sc book start state before t w idle) (parts ∙ sym (append_assoc before (t ∷ []) ts)) m shown listed
    ] in
    go (is_active state.clock t.station) refl tests

-- going through tests adds no pending receipt
through-noted : (sc : Scenario) (book : BookView) (ts : List ClockTest) (xs : List Step) (state : CoreState) → (replay_tests sc book ts xs state).noted ≡ state.noted
through-noted sc book ts [] state = (go-on-start sc book ts state).1
through-noted sc book [] (x ∷ xs) state = refl
through-noted sc book (t ∷ ts) (x ∷ xs) state =
    elim (is_active state.clock t.station) as (λ b. (if b then replay_tests sc book ts xs (settled sc state t x.shown) else replay_tests sc book ts (x ∷ xs) state).noted ≡ state.noted) [
      | true ↦ through-noted sc book ts xs (settled sc state t x.shown)
      | false ↦ through-noted sc book ts (x ∷ xs) state
    ]

-- whether steps are properly settled does not depend on the number
AreShown-number : (sc : Scenario) (book : BookView) (state : CoreState) (n : ℕ) (xs : List Step) → AreShown sc book state xs → AreShown sc book (record state { number = n }) xs
AreShown-number sc book state n [] h = tt
AreShown-number sc book state n (x ∷ xs) h = (IsStepShown-same sc book (record state { number = n }) state x refl refl refl h.0, AreShown-number sc book (settled sc state (test_of x) x.shown) n xs h.1)

-- a state with this start and these steps
abbrev kept_of : Scenario → Order → Option Shown → List Step → CoreState
kept_of sc order start steps = record (before_start sc order) { start = start; steps = steps }

pub opening-goes : (sc : Scenario) (book : BookView) (order : Order) → Continues (before_start sc order) (opening sc book order)
unfolding opening
opening-goes sc book order =
    elim (start_unasked sc book) as (λ o. Continues (before_start sc order) (option_map_or (started sc book (before_start sc order)) o (before_start sc order))) [
      | None ↦ goes-self (before_start sc order)
      | Some shown ↦ started-goes sc book (before_start sc order) shown refl
    ]

-- the state once the start set was shown to fit and the steps were gone through
running : (sc : Scenario) (book : BookView) (order : Order) (start : Shown) (steps : List Step) (n : ℕ) → IsAuction sc book → IsPrefix sc book order (Some start) steps → shows_room start ≡ true →
    Through sc book start (record (after_start sc order start) { number = n }) steps (replay_tests sc book (clock_tests sc order) steps (record (after_start sc order start) { number = n }))
unfolding asked_tests
running sc book order start steps n a p r =
    let U : List ClockTest = undecided_of steps in
    let asked : List ClockTest = asked_from sc book U (clock_tests sc order) (opening_state sc) in
    let apart : TestsApart asked = asked-apart sc book U (clock_tests sc order) (opening_state sc) (clock_apart sc order a.stations) in
    let first : TestsApart (map test_of steps) = subst TestsApart (sym p.tests) (apart-first (take (length steps) asked) (drop (length steps) asked) (subst TestsApart (sym (take-append-drop (length steps) asked)) apart)) in
    through sc book start U (clock_tests sc order) steps (record (after_start sc order start) { number = n }) [] a
    (first-walk sc book start (record (before_start sc order) { number = n }) a (record { clock = refl; left = refl; map = refl; steps = refl }) p.start_is r) refl
    p.tests (AreShown-number sc book (after_start sc order start) n steps p.shown) (listed-shown steps first)

pub resumed-keeps : (sc : Scenario) (book : BookView) (order : Order) (start : Option Shown) (steps : List Step) → IsAuction sc book → IsPrefix sc book order start steps → IsKept sc book (resumed sc book order start steps)
unfolding resumed
resumed-keeps sc book order None steps a p = opening-keeps sc book order a
resumed-keeps sc book order (Some start) steps a p =
    let n : ℕ = 1 + queries_taken start steps in
    let on : CoreState = replay_tests sc book (clock_tests sc order) steps (record (after_start sc order start) { number = n }) in
    let off : CoreState = record (before_start sc order) { start = Some start; number = n } in
    let go : (b : Bool) → shows_room start ≡ b → IsKept sc book (if b then on else off) = λ b. elim b as (λ b. shows_room start ≡ b → IsKept sc book (if b then on else off)) [
      | true ↦ λ r.
          let there = running sc book order start steps n a p r in
          from-parts sc book on (Some start) (there.1.start start refl) p.start_is
          (in-case (IsUnderWay sc book start on) (IsAtStart sc book on) (shows_room start) (λ _. there.0) (λ no. absurd (both_ways (shows_room start) no r)))
          (none-noted sc book on a (through-noted sc book (clock_tests sc order) steps (record (after_start sc order start) { number = n })))
      | false ↦ λ r.
          from-parts sc book off (Some start) refl p.start_is
          (in-case (IsUnderWay sc book start off) (IsAtStart sc book off) (shows_room start)
          (λ yes. absurd (both_ways (shows_room start) r yes))
          (λ _. record { clock = refl; left = refl; map = refl; steps = refl; query = λ (e : Some start ≡ None). cc }))
          (none-noted sc book off a refl)
    ] in
    go (shows_room start) refl

pub resumed-goes : (sc : Scenario) (book : BookView) (order : Order) (start : Option Shown) (steps : List Step) → IsAuction sc book → IsPrefix sc book order start steps → Continues (kept_of sc order start steps) (resumed sc book order start steps)
unfolding resumed
resumed-goes sc book order None steps a p =
    goes-then (kept_of sc order None steps) (before_start sc order) (opening sc book order) (goes-same (kept_of sc order None steps) (before_start sc order) refl refl (sym (p.idle refl))) (opening-goes sc book order)
resumed-goes sc book order (Some start) steps a p =
    let n : ℕ = 1 + queries_taken start steps in
    let at : CoreState = record (after_start sc order start) { number = n } in
    let on : CoreState = replay_tests sc book (clock_tests sc order) steps at in
    let off : CoreState = record (before_start sc order) { start = Some start; number = n } in
    let go : (b : Bool) → shows_room start ≡ b → Continues (kept_of sc order (Some start) steps) (if b then on else off) = λ b. elim b as (λ b. shows_room start ≡ b → Continues (kept_of sc order (Some start) steps) (if b then on else off)) [
      | true ↦ λ r. goes-then (kept_of sc order (Some start) steps) (record at { steps = steps }) on (goes-same (kept_of sc order (Some start) steps) (record at { steps = steps }) refl refl refl) (running sc book order start steps n a p r).1
      | false ↦ λ r. goes-same (kept_of sc order (Some start) steps) off refl refl (sym (p.idle r))
    ] in
    go (shows_room start) refl
