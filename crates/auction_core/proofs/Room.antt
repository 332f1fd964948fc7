-- How a test was settled agrees with the clock rule's answer, and the map follows it.
use Rattle.std.proofs.Common.{◌≡◌, ℕ, Bool, true, false, ◌==◌, ◌||◌, if◌then◌else◌, List, [], ◌∷◌, map, Option, Some, None, Contains, refl, sym, ap, ◌∙◌, subst, ⊎_elim, inl, inr, eqb-true, eq-eqb, ne_eqb, MatchOption}
use Rattle.std.specs.Prelude.{slice_get}
use Rattle.std.proofs.lemmas.Bool.{or_cases, or_left, or_right, false_from_ne_true, cases_eq, cases_Bool, cond-true, cond-false}
use Rattle.std.proofs.lemmas.List.Folds.{list_any-append}
use Rattle.std.proofs.lemmas.List.Elements.{filter_agree}
use Rattle.pack_defs.proofs.Words.{ascending-from}
use Rattle.pack_defs.proofs.Members.{is_in-gives, is_in-from}
use Rattle.pack_defs.specs.Book.{BookView, domain_of}
use Rattle.pack_defs.specs.ChannelMap.{overlaid}
use Rattle.pack_defs.specs.Lists.{is_in, is_empty, is_ascending}
use Rattle.pack_defs.specs.Packing.{IsClean, fits}
use Rattle.pack_defs.specs.declared.scenario.Scenario.{Scenario}
use Rattle.pack_defs.specs.Scenario.{facilities}
use Rattle.pack_defs.specs.Components.{component}
use Rattle.pack_defs.specs.ClockRule.{ClockState, ClockTest, OnAirSince, is_active, is_on_air, on_air_set, asked_set, freezes, goes_on_air, exits, after_answer}
use Rattle.pack_defs.proofs.ComponentLaws.{component-start, test_by_component}
use Rattle.pack_defs.proofs.FitsLaws.{fits-from, fits-gives}
use Rattle.cert_types.proofs.Outsiders.{outside-refutes}
use Rattle.cert_types.specs.declared.task.Task.{Task}
use Rattle.cert_types.specs.declared.answer.Refutation.{Refutation}
use Rattle.pack_defs.specs.declared.worker.Worker.{Worker}
use Rattle.pack_defs.proofs.Chains.{ascending-filter}
use Rattle.pack_defs.proofs.MapLemmas.{overlaid-ascending}
use Rattle.cert_types.specs.Refutes.{Refutes, ByStation}
use Rattle.assign_check.specs.Fault.{IsCleanOn}
use Rattle.cert_types.proofs.Refuting.{refuted-unfit}
use Rattle.cert_types.proofs.Validity.{valid-refutes}
use Rattle.auction_core.specs.declared.record.Shown.{Shown}
use Rattle.auction_core.specs.declared.record.Shown.TheVariants.{Empty, Fits, Same, NoChannel, Refuted, Outside, Undecided}
use Rattle.auction_core.specs.State.{CoreState, restricted, test_task, shows_room, delta_of, settled, settled_unasked}
use Rattle.auction_core.proofs.CertifiedBy.{means-refutation}
use Rattle.auction_core.specs.Backed.{is_undecided, IsRefutedBy, IsSettledBy, IsStepShown}
use Rattle.auction_core.specs.Rule.{IsAuction}
use Rattle.auction_core.specs.ClockProgress.{FitsStayClean}
use Rattle.auction_core.proofs.Merged.{restricted-ascending, IsTest, merged-clean, merged-stations}
use Rattle.auction_core.proofs.Answers.{filter-in, in-filter, component-ascending, clean-fits}
use Rattle.auction_core.proofs.Sets.{step_of, delta-fits, unasked-cases}

-- a clean map of the stations on air, and a station of the scenario that is not on air
pub record IsReady (sc : Scenario) (book : BookView) (state : CoreState) (s : ℕ) : Type 0 where
  pub auction : IsAuction sc book
  pub clean : IsClean book state.map
  pub stations : map (λ x. x.0) state.map ≡ on_air_set sc state.clock
  pub known : Contains (facilities sc) s
  pub off_air : is_on_air state.clock s ≡ false

-- ---- the sets

on-air-rises : (sc : Scenario) (book : BookView) (state : CoreState) (s : ℕ) → IsReady sc book state s → is_ascending (map (λ x. x.0) state.map) ≡ true
on-air-rises sc book state s r =
    subst (λ xs. is_ascending xs ≡ true) (sym r.stations) (ascending-filter (λ f. is_on_air state.clock f) (facilities sc) (ascending-from (facilities sc) r.auction.stations))

asked-rises : (sc : Scenario) (book : BookView) (state : CoreState) (s : ℕ) → IsReady sc book state s → is_ascending (asked_set sc state.clock s) ≡ true
asked-rises sc book state s r =
    ascending-filter (λ f. is_on_air state.clock f || (f == s)) (facilities sc) (ascending-from (facilities sc) r.auction.stations)

asked-has : (sc : Scenario) (book : BookView) (state : CoreState) (s : ℕ) → IsReady sc book state s → is_in (asked_set sc state.clock s) s ≡ true
asked-has sc book state s r =
    in-filter (λ f. is_on_air state.clock f || (f == s)) (facilities sc) s (is_in-from (facilities sc) s r.known) (or_right (is_on_air state.clock s) (s == s) (eq-eqb s s refl))

component-has : (sc : Scenario) (book : BookView) (state : CoreState) (s : ℕ) → IsReady sc book state s → is_in (component book (asked_set sc state.clock s) s) s ≡ true
component-has sc book state s r =
    is_in-from (component book (asked_set sc state.clock s) s) s (component-start book (asked_set sc state.clock s) s (is_in-gives (asked_set sc state.clock s) s (asked-has sc book state s r)))

on-air-fits : (sc : Scenario) (book : BookView) (state : CoreState) (s : ℕ) → IsReady sc book state s → fits book (on_air_set sc state.clock) ≡ true
on-air-fits sc book state s r =
    fits-from book (on_air_set sc state.clock) (record { entries = state.map; stations = r.stations; clean = r.clean })

-- the test of s asks only whether its component fits
by-component : (sc : Scenario) (book : BookView) (state : CoreState) (s : ℕ) → IsReady sc book state s → fits book (asked_set sc state.clock s) ≡ fits book (component book (asked_set sc state.clock s) s)
by-component sc book state s r = test_by_component sc book state.clock s r.known (on-air-fits sc book state s r)

-- ---- what the verdicts say

the-test : (sc : Scenario) (book : BookView) (state : CoreState) (t : ClockTest) (delta : List (ℕ × ℕ)) → IsReady sc book state t.station → IsCleanOn book (test_task sc book state t).set (overlaid (test_task sc book state t).last delta) → IsTest book state.map (asked_set sc state.clock t.station) t.station delta
the-test sc book state t delta r e =
    let s : ℕ = t.station in
    record {
      clean = r.clean;
      on_air = on-air-rises sc book state s r;
      rises = asked-rises sc book state s r;
      here = asked-has sc book state s r;
      each = λ u h.
          let w = filter-in (λ f. is_on_air state.clock f || (f == s)) (facilities sc) u h in
          ⊎_elim
          (λ on. inr (subst (λ xs. is_in xs u ≡ true) (sym r.stations) (in-filter (λ f. is_on_air state.clock f) (facilities sc) u w.0 on)))
          (λ e. inl (sym (eqb-true u s e)))
          (or_cases (is_on_air state.clock u) (u == s) w.1);
      all = λ u h.
          let w = filter-in (λ f. is_on_air state.clock f) (facilities sc) u (subst (λ xs. is_in xs u ≡ true) r.stations h) in
          in-filter (λ f. is_on_air state.clock f || (f == s)) (facilities sc) u w.0 (or_left (is_on_air state.clock u) (u == s) w.1);
      fit = e;
    }

fit-room : (sc : Scenario) (book : BookView) (state : CoreState) (t : ClockTest) (delta : List (ℕ × ℕ)) → IsReady sc book state t.station → IsCleanOn book (test_task sc book state t).set (overlaid (test_task sc book state t).last delta) → fits book (asked_set sc state.clock t.station) ≡ true
fit-room sc book state t delta r e =
    let set : List ℕ = component book (asked_set sc state.clock t.station) t.station in
    by-component sc book state t.station r ∙
    fits-from book set (clean-fits book set (overlaid (restricted state.map set) delta)
    (component-ascending book (asked_set sc state.clock t.station) t.station (asked-rises sc book state t.station r))
    (overlaid-ascending (restricted state.map set) delta (restricted-ascending state.map set (on-air-rises sc book state t.station r)))
    e)

refuted-room : (sc : Scenario) (book : BookView) (state : CoreState) (s : ℕ) → IsReady sc book state s → Refutes book (component book (asked_set sc state.clock s) s) → fits book (asked_set sc state.clock s) ≡ false
refuted-room sc book state s r x =
    let set : List ℕ = component book (asked_set sc state.clock s) s in
    by-component sc book state s r ∙
    false_from_ne_true (fits book set) (λ yes. refuted-unfit book set r.auction.in_order x (fits-gives book set yes))

pub by-worker : (sc : Scenario) (book : BookView) (task : Task) (w : ℕ) (how : Refutation) → IsSettledBy sc book task (Refuted w how) → Refutes book task.set
by-worker sc book task w how e =
    let go : (o : Option Worker) → MatchOption o ⊥ (λ worker. IsRefutedBy book task worker how) → Refutes book task.set = λ o. elim o as (λ o. MatchOption o ⊥ (λ worker. IsRefutedBy book task worker how) → Refutes book task.set) [
      | None ↦ λ f. absurd f
      | Some worker ↦ λ f. valid-refutes book task worker how (means-refutation book task worker how f)
    ] in
    go (slice_get sc.workers w) e

pub no-element : (xs : List ℕ) → is_empty xs ≡ true → xs ≡ []
no-element [] e = refl
no-element (x ∷ xs) e = cc

-- a test that is settled as not fitting, and is not undecided, does not fit
no-fit : (sc : Scenario) (book : BookView) (state : CoreState) (t : ClockTest) (shown : Shown) → IsReady sc book state t.station → IsStepShown sc book state (step_of t shown) → is_undecided shown ≡ false → shows_room shown ≡ false → fits book (asked_set sc state.clock t.station) ≡ false
no-fit sc book state t shown r h u out =
    let set : List ℕ = component book (asked_set sc state.clock t.station) t.station in
    let go : (o : Option Shown) → settled_unasked sc book state t ≡ o → MatchOption o (IsSettledBy sc book (test_task sc book state t) shown) (λ unasked. shown ≡ unasked) → fits book (asked_set sc state.clock t.station) ≡ false = λ o. elim o as (λ o. settled_unasked sc book state t ≡ o → MatchOption o (IsSettledBy sc book (test_task sc book state t) shown) (λ unasked. shown ≡ unasked) → fits book (asked_set sc state.clock t.station) ≡ false) [
      | None ↦ λ e k. by-query shown k u out
      | Some unasked ↦ λ e k. ⊎_elim
          (λ bare. refuted-room sc book state t.station r (ByStation t.station (component-has sc book state t.station r) (no-element (domain_of book t.station) bare.0)))
          (λ same. let yes : true ≡ false = sym (ap shows_room (k ∙ same.1)) ∙ out in cc)
          (unasked-cases sc book state t unasked e)
    ] in
    go (settled_unasked sc book state t) refl h
  where
    by-query : (shown : Shown) → IsSettledBy sc book (test_task sc book state t) shown → is_undecided shown ≡ false → shows_room shown ≡ false → fits book (asked_set sc state.clock t.station) ≡ false
    by-query Empty k u out = absurd k
    by-query (Fits delta) k u out = cc
    by-query Same k u out = absurd k
    by-query (NoChannel s) k u out = absurd k
    by-query (Refuted w how) k u out = refuted-room sc book state t.station r (by-worker sc book (test_task sc book state t) w how k)
    by-query (Outside proof) k u out = refuted-room sc book state t.station r (outside-refutes book (component book (asked_set sc state.clock t.station) t.station) proof (component-ascending book (asked_set sc state.clock t.station) t.station (asked-rises sc book state t.station r)) k)
    by-query (Undecided receipts) k u out = cc

-- if a test is decided, its answer is the rule's
pub room : (sc : Scenario) (book : BookView) (state : CoreState) (t : ClockTest) (shown : Shown) → IsReady sc book state t.station → FitsStayClean sc book state → is_active state.clock t.station ≡ true → IsStepShown sc book state (step_of t shown) → is_undecided shown ≡ false → fits book (asked_set sc state.clock t.station) ≡ shows_room shown
room sc book state t shown r f active h u =
    ⊎_elim
    (λ yes. fit-room sc book state t (delta_of state.steps t.station shown) r (delta-fits sc book state t shown f active h yes) ∙ sym yes)
    (λ no. no-fit sc book state t shown r h u no ∙ sym no)
    (cases_Bool (shows_room shown))

-- ---- the map

flipped : (a b : ℕ) → (a == b) ≡ ((b == a) || false)
flipped a b =
    ⊎_elim (λ e. eq-eqb a b e ∙ sym (or_left (b == a) false (eq-eqb b a (sym e))))
    (λ n. ne_eqb a b n ∙ sym (ap (λ c. c || false) (ne_eqb b a (λ e. n (sym e))))) (cases_eq a b)

-- the stations on air once the test's station is
joined : (sc : Scenario) (st : ClockState) (t : ClockTest) → asked_set sc st t.station ≡ on_air_set sc (goes_on_air st t)
joined sc st t =
    filter_agree (λ f. is_on_air st f || (f == t.station)) (λ f. is_on_air (goes_on_air st t) f)
    (λ f. ap (λ b. is_on_air st f || b) (flipped f t.station) ∙ sym (list_any-append (λ (x : OnAirSince). x.station == f) st.on_air (record { station = t.station; round = t.round } ∷ [])))
    (facilities sc)

now-on-air : (st : ClockState) (t : ClockTest) → is_on_air (goes_on_air st t) t.station ≡ true
now-on-air st t =
    list_any-append (λ (x : OnAirSince). x.station == t.station) st.on_air (record { station = t.station; round = t.round } ∷ []) ∙
    or_right (is_on_air st t.station) ((t.station == t.station) || false) (or_left (t.station == t.station) false (eq-eqb t.station t.station refl))

-- a clean map of exactly the stations on air in this state of the clock
abbrev pub IsOf : Scenario → BookView → ClockState → List (ℕ × ℕ) → Type 0
IsOf sc book clock entries = IsClean book entries × (map (λ x. x.0) entries ≡ on_air_set sc clock)

stays : (sc : Scenario) (book : BookView) (state : CoreState) (s : ℕ) (clock : ClockState) (other : List (ℕ × ℕ)) → IsReady sc book state s → is_on_air clock s ≡ false → on_air_set sc clock ≡ on_air_set sc state.clock → IsOf sc book clock (if is_on_air clock s then other else state.map)
stays sc book state s clock other r off same =
    subst (λ m. IsOf sc book clock m) (sym (cond-false (is_on_air clock s) other state.map off)) (r.clean, r.stations ∙ sym same)

-- if the test does not fit, the map stays
map-frozen : (sc : Scenario) (book : BookView) (state : CoreState) (t : ClockTest) (other : List (ℕ × ℕ)) → IsReady sc book state t.station → IsOf sc book (freezes sc state.clock t) (if is_on_air (freezes sc state.clock t) t.station then other else state.map)
map-frozen sc book state t other r = stays sc book state t.station (freezes sc state.clock t) other r r.off_air refl

-- if the test fits, the map takes its entries when the station goes on air
map-fit : (sc : Scenario) (book : BookView) (state : CoreState) (t : ClockTest) (delta : List (ℕ × ℕ)) → IsReady sc book state t.station → IsCleanOn book (test_task sc book state t).set (overlaid (test_task sc book state t).last delta) → IsOf sc book (after_answer sc state.clock t true) (if is_on_air (after_answer sc state.clock t true) t.station then overlaid state.map delta else state.map)
map-fit sc book state t delta r e =
    let asked : List ℕ = asked_set sc state.clock t.station in
    let test = the-test sc book state t delta r e in
    let go : (b : Bool) → IsOf sc book (if b then goes_on_air state.clock t else state.clock) (if is_on_air (if b then goes_on_air state.clock t else state.clock) t.station then overlaid state.map delta else state.map) = λ b. elim b as (λ b. IsOf sc book (if b then goes_on_air state.clock t else state.clock) (if is_on_air (if b then goes_on_air state.clock t else state.clock) t.station then overlaid state.map delta else state.map)) [
      | true ↦ subst (λ m. IsOf sc book (goes_on_air state.clock t) m) (sym (cond-true (is_on_air (goes_on_air state.clock t) t.station) (overlaid state.map delta) state.map (now-on-air state.clock t)))
          (merged-clean book state.map asked t.station delta test, merged-stations book state.map asked t.station delta test ∙ joined sc state.clock t)
      | false ↦ stays sc book state t.station state.clock (overlaid state.map delta) r r.off_air refl
    ] in
    go (exits sc t)

-- the map after a settled test is clean, with exactly the stations on air
pub new-map : (sc : Scenario) (book : BookView) (state : CoreState) (t : ClockTest) (shown : Shown) → IsReady sc book state t.station → FitsStayClean sc book state → is_active state.clock t.station ≡ true → IsStepShown sc book state (step_of t shown) → IsOf sc book (settled sc state t shown).clock (settled sc state t shown).map
new-map sc book state t shown r f active h =
    let delta : List (ℕ × ℕ) = delta_of state.steps t.station shown in
    let at : Bool → Type 0 = λ b. IsOf sc book (after_answer sc state.clock t b) (if is_on_air (after_answer sc state.clock t b) t.station then overlaid state.map delta else state.map) in
    ⊎_elim
    (λ yes. subst at (sym yes) (map-fit sc book state t delta r (delta-fits sc book state t shown f active h yes)))
    (λ no. subst at (sym no) (map-frozen sc book state t (overlaid state.map delta) r))
    (cases_Bool (shows_room shown))
