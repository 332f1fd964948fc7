-- The walk over the steps of a transcript and the walk of the clock rule, side by side.
use Rattle.std.proofs.Common.{◌≡◌, ℕ, ◌+◌, Bool, true, false, ◌&&◌, ◌==◌, if◌then◌else◌, List, [], ◌∷◌, ◌++◌, map, Option, Some, None, refl, sym, ap, ap₂, subst, ◌∙◌, append_assoc, append-nil, eqb-true, eq-eqb}
use Rattle.std.proofs.lemmas.Bool.{and_parts, and_from}
use Rattle.pack_defs.specs.declared.scenario.Scenario.{Scenario}
use Rattle.pack_defs.specs.Book.{BookView}
use Rattle.pack_defs.specs.ClockRule.{ClockState, ClockTest, clock_tests, opening_state, is_active, after_test, after_tests, asked_from}
use Rattle.pack_defs.proofs.Members.{Contains-here, Contains-there}
use Rattle.pack_defs.proofs.ClockSteps.{test_idle}
use Rattle.pack_defs.proofs.TestOrder.{in_turn}
use Rattle.cert_types.specs.declared.answer.Place.{Place}
use Rattle.auction_core.specs.declared.record.Shown.{Shown}
use Rattle.auction_core.specs.State.{CoreState, settled, test_of}
use Rattle.auction_core.specs.Backed.{AreShown, after_steps}
use Rattle.auction_core.specs.Rule.{IsAuction}
use Rattle.auction_core.specs.ClockProgress.{FitsStayClean, IsClockProgress}
use Rattle.auction_core.proofs.Sets.{fits-stand-step}
use Rattle.auction_core.proofs.Walk.{off-air, walk-step, walk-skip, ready}
use Rattle.auction_core.proofs.Room.{IsOf, new-map}
use Rattle.auction_core.proofs.Done.{AreListed, step-moves}
use Rattle.auction_core.specs.declared.transcript.TranscriptStep.{TranscriptStep}
use Rattle.auction_core.specs.declared.prefix.ShownWhy.TheVariants.{Order, NotValid}
use Rattle.auction_core.specs.NotShown.{NotShown, step_fault, next_asked, fault_at_end, step_fault_or, is_test, at_test, not_shown_at, steps_fault}
use Rattle.auction_core.specs.LogNumbers.{steps_in, AreNumbered}
use Rattle.auction_core.proofs.StepLemmas.{step-shown, step-none}

pub absurd-fault : (x : NotShown) → Some x ≡ None → ⊥
absurd-fault x e = cc

pub step_or-parts : (step : ℕ) (o : Option Place) (rest : Option NotShown) → step_fault_or step o rest ≡ None → (o ≡ None) × (rest ≡ None)
step_or-parts step None rest e = (refl, e)
step_or-parts step (Some place) rest e = absurd (absurd-fault (record { step = step; why = NotValid place }) e)

pub if-parts : (b : Bool) (step : ℕ) (o : Option NotShown) → (if b then o else not_shown_at step Order) ≡ None → (b ≡ true) × (o ≡ None)
if-parts true step o e = (refl, e)
if-parts false step o e = absurd (absurd-fault (record { step = step; why = Order }) e)

pub same-tests : (t : ClockTest) (x : TranscriptStep) → is_test t x ≡ true → t ≡ test_of x.step
same-tests t x e =
    let parts = and_parts (t.round == x.step.round) (t.station == x.step.station) e in
    ap₂ (λ (r s : ℕ). let u : ClockTest = record { round = r; station = s } in u) (eqb-true t.round x.step.round parts.0) (eqb-true t.station x.step.station parts.1)

-- ---- from no fault to the rule

-- the tests that are skipped before the next one that is asked
pub record IsPassed (sc : Scenario) (book : BookView) (start : Shown) (state : CoreState) (left : List ClockTest) : Type 0 where
  pub before : List ClockTest
  pub progress : IsClockProgress sc book start state before
  pub all_tests : clock_tests sc state.order ≡ before ++ left
  pub asked : (t : ClockTest) (ts : List ClockTest) → left ≡ t ∷ ts → is_active state.clock t.station ≡ true

head-is : (t u : ClockTest) (ts us : List ClockTest) → t ∷ ts ≡ u ∷ us → t ≡ u
head-is t u ts us e = cc

no-head : (u : ClockTest) (us : List ClockTest) → [] ≡ u ∷ us → ⊥
no-head u us e = cc

pub passed : (sc : Scenario) (book : BookView) (start : Shown) (state : CoreState) (before ts : List ClockTest) → IsClockProgress sc book start state before → clock_tests sc state.order ≡ before ++ ts
    → IsPassed sc book start state (next_asked state.clock ts)
passed sc book start state before [] w parts = record { before = before; progress = w; all_tests = parts; asked = λ u us e. absurd (no-head u us e) }
passed sc book start state before (t ∷ ts) w parts =
    go (is_active state.clock t.station) refl
    (λ idle. passed sc book start state (before ++ t ∷ []) ts (walk-skip sc book start state before t w idle) (parts ∙ sym (append_assoc before (t ∷ []) ts)))
  where
    go : (b : Bool) → is_active state.clock t.station ≡ b → (is_active state.clock t.station ≡ false → IsPassed sc book start state (next_asked state.clock ts))
        → IsPassed sc book start state (if b then t ∷ ts else next_asked state.clock ts)
    go true active rest = record {
      before = before;
      progress = w;
      all_tests = parts;
      asked = λ u us e. subst (λ (v : ClockTest). is_active state.clock v.station ≡ true) (head-is t u ts us e) active;
    }
    go false idle rest = rest idle

-- what steps without a fault lead to
pub record IsFollowed (sc : Scenario) (book : BookView) (start : Shown) (state : CoreState) (xs : List TranscriptStep) : Type 0 where
  pub progress : IsClockProgress sc book start (after_steps sc state (steps_in xs)) (clock_tests sc state.order)
  pub numbered : AreNumbered sc book state xs

pub followed : (sc : Scenario) (book : BookView) (start : Shown) (step : ℕ) (state : CoreState) (before ts : List ClockTest) (xs : List TranscriptStep) → IsAuction sc book → IsClockProgress sc book start state before → clock_tests sc state.order ≡ before ++ ts
    → steps_fault sc book step state ts xs ≡ None → IsFollowed sc book start state xs
unfolding steps_fault
followed sc book start step state before ts [] a w parts e =
    let p = passed sc book start state before ts w parts in
    go (next_asked state.clock ts) p e
  where
    go : (left : List ClockTest) → IsPassed sc book start state left → fault_at_end step left ≡ None → IsFollowed sc book start state []
    go [] p f = record { progress = subst (IsClockProgress sc book start state) (sym (p.all_tests ∙ append-nil p.before)) p.progress; numbered = tt }
    go (t ∷ us) p f = absurd (absurd-fault (record { step = step; why = Order }) f)
followed sc book start step state before ts (x ∷ xs) a w parts e =
    go (next_asked state.clock ts) (passed sc book start state before ts w parts) e
    (λ before' us w' parts' e'. followed sc book start (step + 1) (settled sc state (test_of x.step) x.step.shown) before' us xs a w' parts' e')
  where
    next : CoreState
    next = settled sc state (test_of x.step) x.step.shown

    Rest : Type 0
    Rest = (before' us : List ClockTest) → IsClockProgress sc book start next before' → clock_tests sc next.order ≡ before' ++ us → steps_fault sc book (step + 1) next us xs ≡ None → IsFollowed sc book start next xs

    go : (left : List ClockTest) → IsPassed sc book start state left → at_test sc book step state x left (λ rest. steps_fault sc book (step + 1) next rest xs) ≡ None → Rest → IsFollowed sc book start state (x ∷ xs)
    go [] p f more = absurd (absurd-fault (record { step = step; why = Order }) f)
    go (t ∷ us) p f more =
        let test = if-parts (is_test t x) step (step_fault_or step (step_fault sc book state x) (steps_fault sc book (step + 1) next us xs)) f in
        let both = step_or-parts step (step_fault sc book state x) (steps_fault sc book (step + 1) next us xs) test.1 in
        let same : t ≡ test_of x.step = same-tests t x test.0 in
        let shown = step-shown sc book state x both.0 in
        let active : is_active state.clock x.step.station ≡ true = ap (λ (u : ClockTest). is_active state.clock u.station) (sym same) ∙ p.asked t us refl in
        let parts' : clock_tests sc state.order ≡ p.before ++ test_of x.step ∷ us = p.all_tests ∙ ap (λ (u : ClockTest). p.before ++ u ∷ us) same in
        let w' = walk-step sc book start state p.before us (test_of x.step) x.step.shown a p.progress parts' active shown.0 in
        let rest = more (p.before ++ test_of x.step ∷ []) us w' (parts' ∙ sym (append_assoc p.before (test_of x.step ∷ []) us)) both.1 in
        record { progress = rest.progress; numbered = (shown.1, rest.numbered) }

-- ---- from the rule to no fault

idle-fault : (sc : Scenario) (book : BookView) (step : ℕ) (state : CoreState) (t : ClockTest) (ts : List ClockTest) (xs : List TranscriptStep) → is_active state.clock t.station ≡ false
    → steps_fault sc book step state (t ∷ ts) xs ≡ steps_fault sc book step state ts xs
unfolding steps_fault
idle-fault sc book step state t ts [] idle = rw idle refl
idle-fault sc book step state t ts (x ∷ xs) idle = rw idle refl

is-test : (t : ClockTest) (x : TranscriptStep) → test_of x.step ≡ t → is_test t x ≡ true
is-test t x same =
    subst (λ (u : ClockTest). (u.round == x.step.round && u.station == x.step.station) ≡ true) same
    (and_from (x.step.round == x.step.round) (x.step.station == x.step.station) (eq-eqb x.step.round x.step.round refl) (eq-eqb x.step.station x.step.station refl))

active-fault : (sc : Scenario) (book : BookView) (step : ℕ) (state : CoreState) (t : ClockTest) (ts : List ClockTest) (x : TranscriptStep) (xs : List TranscriptStep) → is_active state.clock t.station ≡ true
    → test_of x.step ≡ t → step_fault sc book state x ≡ None → steps_fault sc book (step + 1) (settled sc state (test_of x.step) x.step.shown) ts xs ≡ None
    → steps_fault sc book step state (t ∷ ts) (x ∷ xs) ≡ None
unfolding steps_fault
active-fault sc book step state t ts x xs active same none rest = rw (active, is-test t x same, none) rest

-- properly settled and numbered steps of the tests that the rule asks have no fault
pub ruled : (sc : Scenario) (book : BookView) (U ts done : List ClockTest) (step : ℕ) (state : CoreState) (xs : List TranscriptStep) → IsAuction sc book → state.clock ≡ after_tests sc book U done (opening_state sc) → IsOf sc book state.clock state.map → FitsStayClean sc book state
    → map test_of (steps_in xs) ≡ asked_from sc book U ts state.clock → AreShown sc book state (steps_in xs) → AreNumbered sc book state xs → AreListed U (steps_in xs)
    → steps_fault sc book step state ts xs ≡ None
unfolding steps_fault
ruled sc book U [] done step state [] a e of fits tests shown numbered listed = refl
ruled sc book U [] done step state (x ∷ xs) a e of fits tests shown numbered listed = absurd cc
ruled sc book U (t ∷ ts) done step state xs a e of fits tests shown numbered listed =
    let next : ClockTest → ClockState = λ u. after_test sc book U state.clock u in
    let place_in_round : (u : ClockTest) → next u ≡ after_tests sc book U (done ++ u ∷ []) (opening_state sc) = λ u.
    ap (λ c. after_test sc book U c u) e ∙ sym (in_turn sc book U done (u ∷ []) (opening_state sc)) in
    let asked : (ys : List TranscriptStep) → is_active state.clock t.station ≡ true → map test_of (steps_in ys) ≡ t ∷ asked_from sc book U ts (next t) → AreShown sc book state (steps_in ys) → AreNumbered sc book state ys → AreListed U (steps_in ys) → steps_fault sc book step state (t ∷ ts) ys ≡ None = λ ys active. elim ys as (λ ys. map test_of (steps_in ys) ≡ t ∷ asked_from sc book U ts (next t) → AreShown sc book state (steps_in ys) → AreNumbered sc book state ys → AreListed U (steps_in ys) → steps_fault sc book step state (t ∷ ts) ys ≡ None) [
      | [] ↦ λ m s n l. absurd cc
      | x ∷ ys ↦ λ m s n l.
          let same : test_of x.step ≡ t = cc in
          let rest : map test_of (steps_in ys) ≡ asked_from sc book U ts (next t) = cc in
          let active' : is_active state.clock x.step.station ≡ true = subst (λ (u : ClockTest). is_active state.clock u.station ≡ true) (sym same) active in
          let r = ready sc book U done state x.step.station a e of active' in
          let moved : (settled sc state (test_of x.step) x.step.shown).clock ≡ next (test_of x.step) = step-moves sc book U state x.step r fits active' s.0 (l x.step (Contains-here x.step (steps_in ys))) in
          let stand = fits-stand-step sc book state (test_of x.step) x.step.shown a (off-air sc book U done state.clock a e) active' fits s.0 in
          let moved' : (settled sc state (test_of x.step) x.step.shown).clock ≡ next t = moved ∙ ap next same in
          active-fault sc book step state t ts x ys active same (step-none sc book state x s.0 n.0)
          (ruled sc book U ts (done ++ t ∷ []) (step + 1) (settled sc state (test_of x.step) x.step.shown) ys a (moved' ∙ place_in_round t) (new-map sc book state (test_of x.step) x.step.shown r fits active' s.0) stand
          (rest ∙ ap (asked_from sc book U ts) (sym moved')) s.1 n.1 (λ y c. l y (Contains-there x.step y (steps_in ys) c)))
    ] in
    let go : (b : Bool) → is_active state.clock t.station ≡ b → map test_of (steps_in xs) ≡ (if b then t ∷ asked_from sc book U ts (next t) else asked_from sc book U ts state.clock) → steps_fault sc book step state (t ∷ ts) xs ≡ None = λ b. elim b as (λ b. is_active state.clock t.station ≡ b → map test_of (steps_in xs) ≡ (if b then t ∷ asked_from sc book U ts (next t) else asked_from sc book U ts state.clock) → steps_fault sc book step state (t ∷ ts) xs ≡ None) [
      | true ↦ λ active m. asked xs active m shown numbered listed
      | false ↦ λ idle m.
          let same : next t ≡ state.clock = test_idle book U sc state.clock t idle in
          idle-fault sc book step state t ts xs idle ∙
          ruled sc book U ts (done ++ t ∷ []) step state xs a (sym same ∙ place_in_round t) of fits m shown numbered listed
    ] in
    go (is_active state.clock t.station) refl tests
