-- The test history follows the clock. For `clock_run::settle`.
use Rattle.std.proofs.Common.{◌≡◌, ◌∙◌, ℕ, zero, suc, ◌+◌, ◌<◌, Bool, true, false, cond, ◌||◌, eqb, length-append, inl, inr, ⊎_elim, unwrap_or, Contains, List, [], ◌∷◌, ◌++◌, length, set, get_or, get_or-set_same, Option, Some, None, MatchOption, refl, sym, ap, subst, arith}
use Rattle.std.proofs.lemmas.Bool.{cases_eq, cases_lt, cond-false, cond-true, eq-eqb, eqb-true, false≢true, ne_eqb}
use Rattle.std.proofs.lemmas.List.{length-map}
use Rattle.std.proofs.lemmas.List.Kept.{AllPairs-from_increasing}
use Rattle.std.proofs.lemmas.List.Elements.{Contains-get_or}
use Rattle.std.specs.List.Sorted.{IsStrictlyIncreasing}
use Rattle.pack_defs.specs.declared.scenario.Scenario.{Scenario}
use Rattle.pack_defs.specs.declared.station.Station.{Station}
use Rattle.pack_defs.specs.Book.{BookView}
use Rattle.pack_defs.specs.Lists.{is_in}
use Rattle.pack_defs.specs.Scenario.{facilities}
use Rattle.pack_defs.specs.ClockRule.{ClockTest, ClockState, after_answer, asked_set, exits, goes_on_air, is_on_air, opening_state}
use Rattle.auction_core.specs.declared.clock.StationStatus.TheVariants.{Active, OnAir}
use Rattle.auction_core.specs.declared.record.Shown.{Shown}
use Rattle.auction_core.specs.declared.record.Shown.TheVariants.{Empty, Fits, Same, NoChannel, Refuted, Outside, Undecided}
use Rattle.auction_core.specs.declared.record.Step.{Step}
use Rattle.auction_core.specs.Backed.{IsSettledBy, IsStepShown, after_start, shown_start}
use Rattle.auction_core.specs.Clock.{answered_status, is_status_on_air}
use Rattle.auction_core.specs.ClockRun.{ClockRunView, GivesWithin, KeepsTestHistory, clock_of, next_test}
use Rattle.auction_core.specs.ComponentLabels.{AreLabelsOf, ComponentLabelsView, label_of, labelled, last_seen, relabelled}
use Rattle.auction_core.specs.TestHistory.{TestHistoryView}
use Rattle.auction_core.specs.Setup.{IsSetupSound, SetupView}
use Rattle.auction_core.specs.State.{CoreState, delta_of, fit_of, last_fit, settled_unasked, shows_room, test_of, test_task, tested_set}
use Rattle.auction_core.specs.StepList.{names_only, has_verdict, step_kind_of}
use Rattle.auction_core.specs.ClockProgress.{clock_after}
use Rattle.auction_core.proofs.Answers.{filter-in}
use Rattle.auction_core.proofs.ClockRunLemmas.{IsAt, IsStepMore, next-clock, next_clock_run, next_standing}
use Rattle.auction_core.proofs.Merged.{in-component}
use Rattle.auction_core.proofs.Sets.{last_fit-push, step_of, unasked-cases, within-fit}
use Rattle.auction_core.proofs.Since.{after-clock, joined-parts}

-- ---- which verdicts a step may have

-- a properly settled step names no other station as one without a channel
pub step-names : (sc : Scenario) (book : BookView) (state : CoreState) (t : ClockTest) (shown : Shown) → IsStepShown sc book state (step_of t shown) → names_only t.station shown ≡ true
step-names sc book state t shown h =
    let go : (o : Option Shown) → settled_unasked sc book state t ≡ o → MatchOption o (IsSettledBy sc book (test_task sc book state t) shown) (λ unasked. shown ≡ unasked) → names_only t.station shown ≡ true = λ o. elim o as (λ o. settled_unasked sc book state t ≡ o → MatchOption o (IsSettledBy sc book (test_task sc book state t) shown) (λ unasked. shown ≡ unasked) → names_only t.station shown ≡ true) [
      | None ↦ λ e k. by-query shown k
      | Some u ↦ λ e k. ⊎_elim
          (λ bare. subst (λ x. names_only t.station x ≡ true) (sym (k ∙ bare.1)) (eq-eqb t.station t.station refl))
          (λ same. subst (λ x. names_only t.station x ≡ true) (sym (k ∙ same.1)) refl)
          (unasked-cases sc book state t u e)
    ] in
    go (settled_unasked sc book state t) refl h
  where
    by-query : (shown : Shown) → IsSettledBy sc book (test_task sc book state t) shown → names_only t.station shown ≡ true
    by-query Empty k = refl
    by-query (Fits delta) k = refl
    by-query Same k = refl
    by-query (NoChannel s) k = absurd k
    by-query (Refuted w how) k = refl
    by-query (Outside proof) k = refl
    by-query (Undecided receipts) k = refl

-- a test that needs no query has no verdict of its own
pub unasked-none : (sc : Scenario) (book : BookView) (state : CoreState) (t : ClockTest) (u : Shown) → settled_unasked sc book state t ≡ Some u → has_verdict (step_kind_of u) ≡ true → ⊥
unasked-none sc book state t u e k =
    ⊎_elim
    (λ bare. false≢true (sym (ap (λ x. has_verdict (step_kind_of x)) bare.1) ∙ k))
    (λ same. false≢true (sym (ap (λ x. has_verdict (step_kind_of x)) same.1) ∙ k))
    (unasked-cases sc book state t u e)

-- a test asks about the scenario's stations only
tested-within : (sc : Scenario) (book : BookView) (clock : ClockState) (s z : ℕ) → is_in (tested_set sc book clock s) z ≡ true → is_in (facilities sc) z ≡ true
tested-within sc book clock s z h = (filter-in (λ f. is_on_air clock f || (eqb f s)) (facilities sc) z (in-component book (asked_set sc clock s) s z h)).0

-- a properly settled step gives channels to the scenario's stations only, if the fits before it do
pub step-within : (sc : Scenario) (book : BookView) (state : CoreState) (t : ClockTest) (shown : Shown) → IsStepShown sc book state (step_of t shown) → ((f : ℕ) → GivesWithin sc (last_fit state.steps f [])) → GivesWithin sc (delta_of state.steps t.station shown)
step-within sc book state t shown h before =
    let go : (o : Option Shown) → settled_unasked sc book state t ≡ o → MatchOption o (IsSettledBy sc book (test_task sc book state t) shown) (λ unasked. shown ≡ unasked) → GivesWithin sc (delta_of state.steps t.station shown) = λ o. elim o as (λ o. settled_unasked sc book state t ≡ o → MatchOption o (IsSettledBy sc book (test_task sc book state t) shown) (λ unasked. shown ≡ unasked) → GivesWithin sc (delta_of state.steps t.station shown)) [
      | None ↦ λ e k. by-query shown k
      | Some u ↦ λ e k. ⊎_elim
          (λ bare. subst (λ x. GivesWithin sc (delta_of state.steps t.station x)) (sym (k ∙ bare.1)) (before t.station))
          (λ same. subst (λ x. GivesWithin sc (delta_of state.steps t.station x)) (sym (k ∙ same.1)) (before t.station))
          (unasked-cases sc book state t u e)
    ] in
    go (settled_unasked sc book state t) refl h
  where
    by-query : (shown : Shown) → IsSettledBy sc book (test_task sc book state t) shown → GivesWithin sc (delta_of state.steps t.station shown)
    by-query Empty k = absurd k
    by-query (Fits delta) k = λ z there. tested-within sc book state.clock t.station z (within-fit book (test_task sc book state t).set (test_task sc book state t).last delta k z there)
    by-query Same k = absurd k
    by-query (NoChannel s) k = absurd k
    by-query (Refuted w how) k = before t.station
    by-query (Outside proof) k = before t.station
    by-query (Undecided receipts) k = before t.station

-- ---- one more test

-- The test history once the next test is settled. Its step is appended, and the number of stations on air is stored at its
-- station's place. A station that went on air has joined its components.
pub record HasNoted (s : SetupView) (c : ClockRunView) (shown : Shown) (i : ℕ) (test_history : TestHistoryView) : Type 0 where
  pub steps : IsStepMore s c shown test_history
  pub seen : test_history.seen ≡ set c.test_history.seen i c.test_history.on_air
  pub stations : test_history.component_labels.stations ≡ c.test_history.component_labels.stations
  pub went : is_status_on_air (next_standing s c shown) ≡ true → (test_history.on_air ≡ c.test_history.on_air + 1) × ((z : ℕ) → label_of test_history.component_labels z ≡ relabelled s.book (labelled c.test_history.component_labels) (label_of c.test_history.component_labels) (next_test s c).station (c.test_history.on_air + 1) z)
  pub stood : is_status_on_air (next_standing s c shown) ≡ false → (test_history.on_air ≡ c.test_history.on_air) × (test_history.component_labels ≡ c.test_history.component_labels)

last_seen-push : (sc : Scenario) (st : ClockState) (xs : List Step) (x : Step) (s n : ℕ) → last_seen sc st (xs ++ x ∷ []) s n ≡ cond (eqb x.station s) (length (clock_after sc st xs).on_air) (last_seen sc st xs s n)
last_seen-push sc st [] x s n = refl
last_seen-push sc st (y ∷ ys) x s n = last_seen-push sc (after_answer sc st (test_of y) (shows_room y.shown)) ys x s (cond (eqb y.station s) (length st.on_air) n)

-- the labels follow the clock, by the test's answer
parts-after : (sc : Scenario) (book : BookView) (clock : ClockState) (t : ClockTest) (fits : Bool) (old new : ComponentLabelsView) (n : ℕ) → Contains (facilities sc) t.station → is_on_air clock t.station ≡ false → AreLabelsOf sc book clock old → new.stations ≡ old.stations → n ≡ length clock.on_air →
    (is_status_on_air (answered_status sc t fits) ≡ true → (z : ℕ) → label_of new z ≡ relabelled book (labelled old) (label_of old) t.station (n + 1) z) →
    (is_status_on_air (answered_status sc t fits) ≡ false → new ≡ old) → AreLabelsOf sc book (after_answer sc clock t fits) new
parts-after sc book clock t false old new n known off h same count went stood =
    subst (AreLabelsOf sc book (after_answer sc clock t false)) (sym (stood refl)) (record { stations = h.stations; on_air = h.on_air; are = h.are; most = h.most })
parts-after sc book clock t true old new n known off h same count went stood =
    (elim (exits sc t) as (λ b. (is_status_on_air (cond b (OnAir t.round) Active) ≡ true → (z : ℕ) → label_of new z ≡ relabelled book (labelled old) (label_of old) t.station (n + 1) z) → (is_status_on_air (cond b (OnAir t.round) Active) ≡ false → new ≡ old) → AreLabelsOf sc book (cond b (goes_on_air clock t) clock) new) [
      | true ↦ λ w _. joined-parts sc book clock t old new known off h same (subst (λ m. (z : ℕ) → label_of new z ≡ relabelled book (labelled old) (label_of old) t.station (m + 1) z) count (w refl))
      | false ↦ λ _ st. subst (AreLabelsOf sc book clock) (sym (st refl)) h
    ]) went stood

-- the number of stations on air follows the clock
on_air-after : (sc : Scenario) (clock : ClockState) (t : ClockTest) (fits : Bool) (old new : ℕ) → old ≡ length clock.on_air →
    (is_status_on_air (answered_status sc t fits) ≡ true → new ≡ old + 1) → (is_status_on_air (answered_status sc t fits) ≡ false → new ≡ old) → new ≡ length (after_answer sc clock t fits).on_air
on_air-after sc clock t false old new count went stood = stood refl ∙ count
on_air-after sc clock t true old new count went stood =
    (elim (exits sc t) as (λ b. (is_status_on_air (cond b (OnAir t.round) Active) ≡ true → new ≡ old + 1) → (is_status_on_air (cond b (OnAir t.round) Active) ≡ false → new ≡ old) → new ≡ length (cond b (goes_on_air clock t) clock).on_air) [
      | true ↦ λ w _. w refl ∙ (ap (λ n. n + 1) count ∙ sym (length-append clock.on_air (record { station = t.station; round = t.round } ∷ [])))
      | false ↦ λ _ st. st refl ∙ count
    ]) went stood

length-set : (xs : List ℕ) (i n : ℕ) → length (set xs i n) ≡ length xs
length-set [] i n = refl
length-set (x ∷ xs) zero n = refl
length-set (x ∷ xs) (suc i) n = ap suc (length-set xs i n)

get_or-set_other : (xs : List ℕ) (i k n d : ℕ) → (i ≡ k → ⊥) → get_or (set xs i n) k d ≡ get_or xs k d
get_or-set_other [] i k n d other = refl
get_or-set_other (x ∷ xs) zero zero n d other = absurd (other refl)
get_or-set_other (x ∷ xs) zero (suc k) n d other = refl
get_or-set_other (x ∷ xs) (suc i) zero n d other = refl
get_or-set_other (x ∷ xs) (suc i) (suc k) n d other = get_or-set_other xs i k n d (λ e. other (ap suc e))

-- a number has one place in a list that rises
pub one-place : (xs : List ℕ) (i k : ℕ) → IsStrictlyIncreasing xs → i < length xs → k < length xs → get_or xs i 0 ≡ get_or xs k 0 → i ≡ k
one-place xs i k up a b e =
    let less = AllPairs-from_increasing xs up in
    elim (cases_lt i k) [
      | inl before ↦ let l = less i k 0 before b in absurd (omega (arith, l, e))
      | inr from ↦ elim (cases_lt k i) [
        | inl behind ↦ let m = less k i 0 behind a in absurd (omega (arith, m, e))
        | inr same ↦ omega (arith, from, same)
      ]
    ]

-- the test history follows the clock
pub next-test_history : (s : SetupView) (c : ClockRunView) (shown : Shown) (i : ℕ) (test_history : TestHistoryView) → IsSetupSound s → KeepsTestHistory s c → IsAt s c i → HasNoted s c shown i test_history →
    is_on_air (clock_of s c) (next_test s c).station ≡ false → GivesWithin s.scenario (delta_of c.test_history.steps (next_test s c).station shown) → KeepsTestHistory s (next_clock_run s c shown i test_history)
next-test_history s c shown i test_history l k at j off gives =
    let sc = s.scenario in
    let t = next_test s c in
    let x : Step = step_of t shown in
    let new = next_clock_run s c shown i test_history in
    let clock = next-clock s c shown i test_history j.steps in
    let all = length-map sc.stations (λ (x : Station). x.id) in
    let known : Contains (facilities sc) t.station = subst (λ f. Contains (facilities sc) f) at.station (Contains-get_or (facilities sc) i 0 (rw all at.within)) in
    record {
      component_labels = subst (λ z. AreLabelsOf sc s.book z test_history.component_labels) (sym clock) (parts-after sc s.book (clock_of s c) t (shows_room shown) c.test_history.component_labels test_history.component_labels c.test_history.on_air known off k.component_labels j.stations k.on_air (λ w. (j.went w).1) (λ st. (j.stood st).1));
      on_air = subst (λ (z : ClockState). test_history.on_air ≡ length z.on_air) (sym clock) (on_air-after sc (clock_of s c) t (shows_room shown) c.test_history.on_air test_history.on_air k.on_air (λ w. (j.went w).0) (λ st. (j.stood st).0));
      long = ap length j.seen ∙ (length-set c.test_history.seen i c.test_history.on_air ∙ k.long);
      seen = λ n inside. ap (λ xs. get_or xs n 0) j.seen ∙ (seen-next n inside ∙ sym (ap (λ xs. last_seen sc (opening_state sc) xs (get_or (facilities sc) n 0) 0) j.steps));
      fits = λ f. subst (λ xs. GivesWithin sc (last_fit xs f [])) (sym j.steps) (fits-next f);
    }
  where
    seen-next : (n : ℕ) → n < length s.scenario.stations → get_or (set c.test_history.seen i c.test_history.on_air) n 0 ≡ last_seen s.scenario (opening_state s.scenario) (c.test_history.steps ++ step_of (next_test s c) shown ∷ []) (get_or (facilities s.scenario) n 0) 0
    seen-next n inside =
        let sc = s.scenario in
        let t = next_test s c in
        let f : ℕ = get_or (facilities sc) n 0 in
        let all = length-map sc.stations (λ (x : Station). x.id) in
        let count : length (clock_after sc (opening_state sc) c.test_history.steps).on_air ≡ c.test_history.on_air = ap (λ (z : ClockState). length z.on_air) (sym (after-clock sc (after_start sc s.order (shown_start c.start)) c.test_history.steps)) ∙ sym k.on_air in
        let push = last_seen-push sc (opening_state sc) c.test_history.steps (step_of t shown) f 0 in
        ⊎_elim
        (λ (same : i ≡ n).
        let own : eqb t.station f ≡ true = eq-eqb t.station f (sym at.station ∙ ap (λ m. get_or (facilities sc) m 0) same) in
        subst (λ m. get_or (set c.test_history.seen i c.test_history.on_air) m 0 ≡ c.test_history.on_air) same (get_or-set_same c.test_history.seen i c.test_history.on_air 0 (rw k.long at.within))
        ∙ sym (push ∙ (cond-true (eqb t.station f) _ _ own ∙ count)))
        (λ (other : i ≡ n → ⊥).
        let apart : eqb t.station f ≡ false = ne_eqb t.station f (λ e. other (one-place (facilities sc) i n l.auction.limits.ascend (rw all at.within) (rw all inside) (at.station ∙ e))) in
        get_or-set_other c.test_history.seen i n c.test_history.on_air 0 other ∙ (k.seen n inside ∙ sym (push ∙ cond-false (eqb t.station f) _ _ apart)))
        (cases_eq i n)

    fits-next : (f : ℕ) → GivesWithin s.scenario (last_fit (c.test_history.steps ++ step_of (next_test s c) shown ∷ []) f [])
    fits-next f =
        let t = next_test s c in
        let push = last_fit-push c.test_history.steps (step_of t shown) f [] in
        (elim (eqb t.station f) as (λ b. eqb t.station f ≡ b → GivesWithin s.scenario (last_fit (c.test_history.steps ++ step_of t shown ∷ []) f [])) [
          | true ↦ λ e. subst (GivesWithin s.scenario) (sym (push ∙ cond-true (eqb t.station f) _ _ e)) (subst (λ w. GivesWithin s.scenario (unwrap_or (fit_of shown) (last_fit c.test_history.steps w []))) (eqb-true t.station f e) gives)
          | false ↦ λ e. subst (GivesWithin s.scenario) (sym (push ∙ cond-false (eqb t.station f) _ _ e)) (k.fits f)
        ]) refl

-- the station's last fit is what its test puts into the map
pub fit-next : (s : SetupView) (c : ClockRunView) (shown : Shown) → last_fit (c.test_history.steps ++ step_of (next_test s c) shown ∷ []) (next_test s c).station [] ≡ delta_of c.test_history.steps (next_test s c).station shown
fit-next s c shown =
    let t = next_test s c in
    last_fit-push c.test_history.steps (step_of t shown) t.station [] ∙ cond-true (eqb t.station t.station) _ _ (eq-eqb t.station t.station refl)
