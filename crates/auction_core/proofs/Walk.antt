-- From test to test, the state moves as the clock rule does.
use Rattle.std.proofs.Common.{◌≡◌, ℕ, Bool, true, false, ◌||◌, if◌then◌else◌, List, [], ◌∷◌, ◌++◌, map, Option, Some, None, option_map, Contains, refl, sym, ap, ap₂, ◌∙◌, subst, ⊎_elim, MatchOption, append_assoc, append-nil}
use Rattle.std.specs.Prelude.{slice_get}
use Rattle.std.specs.Option.{option_map_or}
use Rattle.std.proofs.lemmas.Bool.{both_ways, false_from_ne_true, cases_Bool}
use Rattle.std.proofs.lemmas.List.Folds.{list_any-append, list_any_at}
use Rattle.pack_defs.specs.Book.{BookView}
use Rattle.pack_defs.specs.ChannelMap.{overlaid}
use Rattle.pack_defs.specs.Packing.{fits}
use Rattle.pack_defs.specs.declared.scenario.Scenario.{Scenario}
use Rattle.pack_defs.specs.ClockRule.{ClockState, ClockTest, clock_tests, opening_state, is_active, is_on_air, is_listed, asked_set, after_answer, after_tests, asked_from}
use Rattle.pack_defs.proofs.ClockSteps.{test_idle}
use Rattle.pack_defs.proofs.TestOrder.{in_turn, no_test_twice, answered_in_turn, undecided_in_turn, asked_in_turn, asked_same_undecided, same_undecided}
use Rattle.cert_types.specs.declared.task.Task.{Task}
use Rattle.cert_types.specs.declared.answer.Answer.TheVariants.{Refuted as Refutes', Spent}
use Rattle.cert_types.specs.declared.answer.Refutation.{Refutation}
use Rattle.cert_types.specs.declared.answer.Receipt.{Receipt}
use Rattle.pack_defs.specs.declared.worker.Worker.{Worker}
use Rattle.auction_core.specs.declared.record.Shown.{Shown}
use Rattle.auction_core.specs.declared.record.Shown.TheVariants.{Empty, Fits, Same, NoChannel, Refuted, Outside, Undecided}
use Rattle.auction_core.specs.declared.record.Step.{Step}
use Rattle.auction_core.specs.State.{CoreState, test_of, restricted, tested_set, test_task, shows_room, delta_of, settled, settled_unasked, advance_to_query}
use Rattle.auction_core.proofs.CertifiedBy.{means-receipt, means-refutation, receipt-means, refutation-means}
use Rattle.auction_core.specs.Backed.{is_undecided, undecided_of, AreReceipts, IsRefutedBy, IsSettledBy, IsStepShown, after_steps, after_start}
use Rattle.auction_core.specs.Rule.{IsAuction}
use Rattle.auction_core.specs.ClockProgress.{IsClockProgress}
use Rattle.auction_core.proofs.Kept.{IsUnderWay}
use Rattle.auction_core.proofs.Answers.{answer-number}
use Rattle.auction_core.proofs.Steps.{after_steps-steps, after_steps-push, AreShown-push, map-push, undecided-push-false, undecided-push-true, same_test, same-back, new-test, bidder, not-on-air}
use Rattle.auction_core.proofs.Sets.{step_of, AreOffAir, fits-stand-step}
use Rattle.auction_core.proofs.Room.{IsReady, IsOf, room, new-map}

-- ---- the number of a query does not matter

refuted-number : (sc : Scenario) (book : BookView) (task : Task) (n w : ℕ) (how : Refutation) → IsSettledBy sc book task (Refuted w how) → IsSettledBy sc book (record task { number = n }) (Refuted w how)
refuted-number sc book task n w how h =
    let go : (o : Option Worker) → MatchOption o ⊥ (λ worker. IsRefutedBy book task worker how) → MatchOption o ⊥ (λ worker. IsRefutedBy book (record task { number = n }) worker how) = λ o. elim o as (λ o. MatchOption o ⊥ (λ worker. IsRefutedBy book task worker how) → MatchOption o ⊥ (λ worker. IsRefutedBy book (record task { number = n }) worker how)) [
      | None ↦ λ v. v
      | Some worker ↦ λ v. refutation-means book (record task { number = n }) worker how (answer-number book task n worker (Refutes' how) ∙ means-refutation book task worker how v)
    ] in
    go (slice_get sc.workers w) h

receipts-number : (book : BookView) (task : Task) (n : ℕ) (ws : List Worker) (xs : List Receipt) → AreReceipts book task ws xs → AreReceipts book (record task { number = n }) ws xs
receipts-number book task n [] [] h = h
receipts-number book task n [] (x ∷ xs) h = h
receipts-number book task n (w ∷ ws) [] h = h
receipts-number book task n (w ∷ ws) (x ∷ xs) h = (receipt-means book (record task { number = n }) w x (answer-number book task n w (Spent x) ∙ means-receipt book task w x h.0), receipts-number book task n ws xs h.1)

pub shown-number : (sc : Scenario) (book : BookView) (task : Task) (n : ℕ) (shown : Shown) → IsSettledBy sc book task shown → IsSettledBy sc book (record task { number = n }) shown
shown-number sc book task n Empty h = h
shown-number sc book task n (Fits delta) h = h
shown-number sc book task n Same h = h
shown-number sc book task n (NoChannel s) h = h
shown-number sc book task n (Refuted w how) h = refuted-number sc book task n w how h
shown-number sc book task n (Outside proof) h = h
shown-number sc book task n (Undecided xs) h = receipts-number book task n sc.workers xs h

-- the query of a test, by the clock and the map only
abbrev task_at : Scenario → BookView → ℕ → ClockState → List (ℕ × ℕ) → ClockTest → Task
task_at sc book n clock m t =
    let set = tested_set sc book clock t.station in
    record { number = n; round = t.round; station = Some t.station; set = set; last = restricted m set }

match-map : (o : Option Shown) (Q R : Type 0) (P : Shown → Type 0) → (Q → R) → MatchOption o Q P → MatchOption o R P
match-map None Q R P f h = f h
match-map (Some u) Q R P f h = h

-- whether a step is properly settled depends on the clock, the map and the steps only
pub IsStepShown-same : (sc : Scenario) (book : BookView) (a b : CoreState) (x : Step) → a.clock ≡ b.clock → a.map ≡ b.map → a.steps ≡ b.steps → IsStepShown sc book b x → IsStepShown sc book a x
IsStepShown-same sc book a b x e f g h =
    let t : ClockTest = test_of x in
    let unasked : settled_unasked sc book b t ≡ settled_unasked sc book a t = ap₂ (λ c xs. unasked_at sc book c xs t) (sym e) (sym g) in
    subst (λ o. MatchOption o (IsSettledBy sc book (test_task sc book a t) x.shown) (λ u. x.shown ≡ u)) unasked
    (match-map (settled_unasked sc book b t) (IsSettledBy sc book (test_task sc book b t) x.shown) (IsSettledBy sc book (test_task sc book a t) x.shown) (λ u. x.shown ≡ u)
    (λ k.
    subst (λ m. IsSettledBy sc book (task_at sc book a.number a.clock m t) x.shown) (sym f)
    (subst (λ c. IsSettledBy sc book (task_at sc book a.number c b.map t) x.shown) (sym e)
    (shown-number sc book (test_task sc book b t) a.number x.shown k))) h)
  where
    unasked_at : Scenario → BookView → ClockState → List Step → ClockTest → Option Shown
    unasked_at sc book c xs t = settled_unasked sc book (record a { clock = c; steps = xs }) t

pub no-room : (shown : Shown) → is_undecided shown ≡ true → shows_room shown ≡ false
no-room Empty e = cc
no-room (Fits delta) e = cc
no-room Same e = cc
no-room (NoChannel s) e = refl
no-room (Refuted w how) e = refl
no-room (Outside proof) e = cc
no-room (Undecided xs) e = refl

-- ---- one more test

pub ready : (sc : Scenario) (book : BookView) (U before : List ClockTest) (state : CoreState) (s : ℕ) → IsAuction sc book → state.clock ≡ after_tests sc book U before (opening_state sc) → IsOf sc book state.clock state.map → is_active state.clock s ≡ true → IsReady sc book state s
ready sc book U before state s a e of active = record {
  auction = a;
  clean = of.0;
  stations = of.1;
  known = bidder sc book U before state.clock s e active;
  off_air = not-on-air sc book U before state.clock s a e active;
}

-- the active stations are the scenario's and not on air
pub off-air : (sc : Scenario) (book : BookView) (U before : List ClockTest) (clock : ClockState) → IsAuction sc book → clock ≡ after_tests sc book U before (opening_state sc) → AreOffAir sc clock
off-air sc book U before clock a e s active = (bidder sc book U before clock s e active, not-on-air sc book U before clock s a e active)

-- the two lists agree on whether an earlier test is undecided
agree : (U before : List ClockTest) (t u : ClockTest) → is_listed before t ≡ false → Contains before u → is_listed (U ++ t ∷ []) u ≡ is_listed U u
agree U before t u new c =
    let other : same_test t u ≡ false = false_from_ne_true (same_test t u) (λ same.
    let there : is_listed before t ≡ true = list_any_at (λ w. same_test w t) before c.0 u c.1 (subst (λ w. same_test w t ≡ true) (sym c.2) (same-back t u same)) in
    both_ways (is_listed before t) new there) in
    list_any-append (λ w. same_test w u) U (t ∷ []) ∙ (ap (λ b. is_listed U u || (b || false)) other ∙ or-false (is_listed U u))
  where
    or-false : (b : Bool) → (b || (false || false)) ≡ b
    or-false true = refl
    or-false false = refl

-- the undecided tests before and after the step agree on the earlier tests
still : (sc : Scenario) (book : BookView) (start : Shown) (state : CoreState) (before after : List ClockTest) (t : ClockTest) (shown : Shown) → IsAuction sc book → IsClockProgress sc book start state before → clock_tests sc state.order ≡ before ++ t ∷ after →
    (u : ClockTest) → Contains before u → is_listed (undecided_of (state.steps ++ step_of t shown ∷ [])) u ≡ is_listed (undecided_of state.steps) u
still sc book start state before after t shown a w parts u c =
    ⊎_elim
    (λ yes. ap (λ V. is_listed V u) (undecided-push-true state.steps (step_of t shown) yes) ∙ agree (undecided_of state.steps) before t u (no_test_twice sc state.order before after t a.stations parts) c)
    (λ no. ap (λ V. is_listed V u) (undecided-push-false state.steps (step_of t shown) no))
    (cases_Bool (is_undecided shown))

-- the clock after the step
step-clock : (sc : Scenario) (book : BookView) (start : Shown) (state : CoreState) (before after : List ClockTest) (t : ClockTest) (shown : Shown) → IsAuction sc book → IsClockProgress sc book start state before → clock_tests sc state.order ≡ before ++ t ∷ after → is_active state.clock t.station ≡ true → IsStepShown sc book state (step_of t shown) →
    after_answer sc state.clock t (shows_room shown) ≡ after_tests sc book (undecided_of (state.steps ++ step_of t shown ∷ [])) (before ++ t ∷ []) (opening_state sc)
step-clock sc book start state before after t shown a w parts active h =
    let U : List ClockTest = undecided_of state.steps in
    let st : ClockState = after_tests sc book U before (opening_state sc) in
    let active' : is_active st t.station ≡ true = subst (λ c. is_active c t.station ≡ true) w.clock active in
    ap (λ c. after_answer sc c t (shows_room shown)) w.clock ∙
    ⊎_elim
    (λ yes.
    ap (after_answer sc st t) (no-room shown yes) ∙
    (sym (undecided_in_turn sc book U before t (opening_state sc) active' (no_test_twice sc state.order before after t a.stations parts)) ∙
    ap (λ V. after_tests sc book V (before ++ t ∷ []) (opening_state sc)) (sym (undecided-push-true state.steps (step_of t shown) yes))))
    (λ no.
    let answer : fits book (asked_set sc st t.station) ≡ shows_room shown = subst (λ c. fits book (asked_set sc c t.station) ≡ shows_room shown) w.clock (room sc book state t shown (ready sc book (undecided_of state.steps) before state t.station a w.clock (w.clean, w.stations) active) w.fits active h no) in
    ap (after_answer sc st t) (sym answer) ∙
    (sym (answered_in_turn sc book U before t (opening_state sc) active' (new-test sc book start state before after t a w parts)) ∙
    ap (λ V. after_tests sc book V (before ++ t ∷ []) (opening_state sc)) (sym (undecided-push-false state.steps (step_of t shown) no))))
    (cases_Bool (is_undecided shown))

-- the tests asked after the step
step-tests : (sc : Scenario) (book : BookView) (start : Shown) (state : CoreState) (before after : List ClockTest) (t : ClockTest) (shown : Shown) → IsAuction sc book → IsClockProgress sc book start state before → clock_tests sc state.order ≡ before ++ t ∷ after → is_active state.clock t.station ≡ true →
    map test_of (state.steps ++ step_of t shown ∷ []) ≡ asked_from sc book (undecided_of (state.steps ++ step_of t shown ∷ [])) (before ++ t ∷ []) (opening_state sc)
step-tests sc book start state before after t shown a w parts active =
    let U : List ClockTest = undecided_of state.steps in
    let V : List ClockTest = undecided_of (state.steps ++ step_of t shown ∷ []) in
    let op : ClockState = opening_state sc in
    let same = still sc book start state before after t shown a w parts in
    let st : after_tests sc book V before op ≡ state.clock = same_undecided sc book V U before op same ∙ sym w.clock in
    let active' : is_active (after_tests sc book V before op) t.station ≡ true = subst (λ c. is_active c t.station ≡ true) (sym st) active in
    map-push state.steps (step_of t shown) ∙
    (ap (λ us. us ++ t ∷ []) (w.tests ∙ sym (asked_same_undecided sc book V U before op same)) ∙
    (ap (λ b. asked_from sc book V before op ++ (if b then t ∷ [] else [])) (sym active') ∙
    sym (asked_in_turn sc book V before (t ∷ []) op)))

-- the properly settled step of an active station's test moves the state as the rule does
pub walk-step : (sc : Scenario) (book : BookView) (start : Shown) (state : CoreState) (before after : List ClockTest) (t : ClockTest) (shown : Shown) → IsAuction sc book → IsClockProgress sc book start state before → clock_tests sc state.order ≡ before ++ t ∷ after → is_active state.clock t.station ≡ true → IsStepShown sc book state (step_of t shown) → IsClockProgress sc book start (settled sc state t shown) (before ++ t ∷ [])
walk-step sc book start state before after t shown a w parts active h =
    let progress : CoreState = after_steps sc (after_start sc state.order start) state.steps in
    let of = new-map sc book state t shown (ready sc book (undecided_of state.steps) before state t.station a w.clock (w.clean, w.stations) active) w.fits active h in
    record {
      clock = step-clock sc book start state before after t shown a w parts active h;
      tests = step-tests sc book start state before after t shown a w parts active;
      shown = AreShown-push sc book (after_start sc state.order start) state.steps (step_of t shown) w.shown (IsStepShown-same sc book progress state (step_of t shown) w.same_clock w.same_map (after_steps-steps sc (after_start sc state.order start) state.steps) h);
      same_clock = ap (λ z. z.clock) (after_steps-push sc (after_start sc state.order start) state.steps (step_of t shown)) ∙ ap (λ c. after_answer sc c t (shows_room shown)) w.same_clock;
      same_map = ap (λ z. z.map) (after_steps-push sc (after_start sc state.order start) state.steps (step_of t shown))
          ∙ (ap (λ xs. if is_on_air (after_answer sc progress.clock t (shows_room shown)) t.station then overlaid progress.map (delta_of xs t.station shown) else progress.map) (after_steps-steps sc (after_start sc state.order start) state.steps)
          ∙ ap₂ (λ c m. if is_on_air (after_answer sc c t (shows_room shown)) t.station then overlaid m (delta_of state.steps t.station shown) else m) w.same_clock w.same_map);
      clean = of.0;
      stations = of.1;
      fits = fits-stand-step sc book state t shown a (off-air sc book (undecided_of state.steps) before state.clock a w.clock) active w.fits h;
    }

-- a test of a station that is not active is skipped
pub walk-skip : (sc : Scenario) (book : BookView) (start : Shown) (state : CoreState) (before : List ClockTest) (t : ClockTest) → IsClockProgress sc book start state before → is_active state.clock t.station ≡ false → IsClockProgress sc book start state (before ++ t ∷ [])
walk-skip sc book start state before t w idle =
    let U : List ClockTest = undecided_of state.steps in
    let op : ClockState = opening_state sc in
    let st : ClockState = after_tests sc book U before op in
    let idle' : is_active st t.station ≡ false = subst (λ c. is_active c t.station ≡ false) w.clock idle in
    record {
      clock = w.clock ∙ (sym (test_idle book U sc st t idle') ∙ sym (in_turn sc book U before (t ∷ []) op));
      tests = w.tests ∙ (sym (append-nil (asked_from sc book U before op)) ∙ (ap (λ b. asked_from sc book U before op ++ (if b then t ∷ [] else [])) (sym idle') ∙ sym (asked_in_turn sc book U before (t ∷ []) op)));
      shown = w.shown;
      same_clock = w.same_clock;
      same_map = w.same_map;
      clean = w.clean;
      stations = w.stations;
      fits = w.fits;
    }

-- the state at the next query, or at the end, is where the rule leads
pub go-on-keeps : (sc : Scenario) (book : BookView) (start : Shown) (ts : List ClockTest) (state : CoreState) (before : List ClockTest) → IsAuction sc book → IsClockProgress sc book start state before → clock_tests sc state.order ≡ before ++ ts → IsUnderWay sc book start (advance_to_query sc book ts state)
go-on-keeps sc book start [] state before a w parts = record {
  before = before;
  all_tests = sym parts;
  clock = w.clock;
  tests = w.tests;
  shown = w.shown;
  same_clock = w.same_clock;
  same_map = w.same_map;
  clean = w.clean;
  stations = w.stations;
  query = tt;
}
go-on-keeps sc book start (t ∷ ts) state before a w parts =
    let parts' : clock_tests sc state.order ≡ (before ++ t ∷ []) ++ ts = parts ∙ sym (append_assoc before (t ∷ []) ts) in
    let at : CoreState = record state { left = t ∷ ts } in
    let inner : (o : Option Shown) → is_active state.clock t.station ≡ true → settled_unasked sc book state t ≡ o → IsUnderWay sc book start (option_map_or (advance_to_query sc book ts) (option_map (settled sc state t) o) at) = λ o. elim o as (λ o. is_active state.clock t.station ≡ true → settled_unasked sc book state t ≡ o → IsUnderWay sc book start (option_map_or (advance_to_query sc book ts) (option_map (settled sc state t) o) at)) [
      | Some u ↦ λ active is.
          let step : IsStepShown sc book state (step_of t u) = subst (λ o. MatchOption o (IsSettledBy sc book (test_task sc book state t) u) (λ unasked. u ≡ unasked)) (sym is) refl in
          go-on-keeps sc book start ts (settled sc state t u) (before ++ t ∷ []) a (walk-step sc book start state before ts t u a w parts active step) parts'
      | None ↦ λ active is. record {
        before = before;
        all_tests = sym parts;
        clock = w.clock;
        tests = w.tests;
        shown = w.shown;
        same_clock = w.same_clock;
        same_map = w.same_map;
        clean = w.clean;
        stations = w.stations;
        query = (active, is);
      }
    ] in
    let outer : (b : Bool) → is_active state.clock t.station ≡ b → IsUnderWay sc book start (option_map_or (advance_to_query sc book ts) (if b then option_map (settled sc state t) (settled_unasked sc book state t) else Some state) at) = λ b. elim b as (λ b. is_active state.clock t.station ≡ b → IsUnderWay sc book start (option_map_or (advance_to_query sc book ts) (if b then option_map (settled sc state t) (settled_unasked sc book state t) else Some state) at)) [
      | true ↦ λ active. inner (settled_unasked sc book state t) active refl
      | false ↦ λ idle. go-on-keeps sc book start ts state (before ++ t ∷ []) a (walk-skip sc book start state before t w idle) parts'
    ] in
    outer (is_active state.clock t.station) refl
