-- Two scenarios that differ in one station's value: their runs agree until that station leaves.
use Rattle.std.proofs.Common.{◌≡◌, ℕ, ◌+◌, ◌-◌, ◌≤◌, true, false, not, ◌&&◌, ◌||◌, eqb, ltb, ◌⊎◌, inl, inr, List, [], ◌∷◌, ◌++◌, refl, sym, ap, ◌∙◌, subst, arith, Contains, filter}
use Rattle.std.proofs.Math.Nat.{le_refl, le_trans}
use Rattle.std.specs.Bool.{MatchBool}
use Rattle.std.proofs.lemmas.Bool.{false≢true, true≢false, eqb-true, eqb-false, or_parts, or_from, ltb-false, le-ltb}
use Rattle.std.proofs.lemmas.List.Elements.{Contains-push_cases}
use Rattle.pack_defs.specs.Lists.{is_in, without}
use Rattle.pack_defs.specs.Book.{BookView}
use Rattle.pack_defs.specs.Packing.{fits}
use Rattle.pack_defs.specs.declared.scenario.Scenario.{Scenario}
use Rattle.pack_defs.specs.Scenario.{facilities}
use Rattle.pack_defs.specs.Prices.{offer, declines, last_round}
use Rattle.pack_defs.specs.ClockRule.{ClockTest, FrozenAt, ClockState, is_active, is_on_air, is_listed, freezes, goes_on_air, exits, has_room, after_test, after_tests}
use Rattle.pack_defs.proofs.ClockSteps.{is_in-without, test_cases, test_idle, test_freezes, test_exits, test_stays, stays_active, was_frozen, run_frozen, run_was_frozen}

-- The scenarios agree except in what this station declines.
pub record AgreeBut (s : ℕ) (A B : Scenario) : Type 0 where
  pub same_facilities : facilities A ≡ facilities B
  pub same_offers : (t r : ℕ) → offer A t r ≡ offer B t r
  pub same_last : last_round A ≡ last_round B
  pub same_others : (t r : ℕ) → (t ≡ s → ⊥) → declines A t r ≡ declines B t r

-- The station declines exactly the offers below this value.
pub record Bids (sc : Scenario) (s v : ℕ) : Type 0 where
  pub below : (r : ℕ) → declines sc s r ≡ ltb (offer sc s r) v

-- The station has one test a round among these, from the round after k on.
abbrev pub OneEachRound : ℕ → ℕ → List ClockTest → Type 0
OneEachRound s k [] = Unit {0}
OneEachRound s k (t ∷ ts) = MatchBool (eqb t.station s) ((t.round ≡ k + 1) × OneEachRound s (k + 1) ts) (OneEachRound s k ts)

-- The station has not been frozen so far.
pub record Unfrozen (st : ClockState) (s : ℕ) : Type 0 where
  pub nowhere : (f : FrozenAt) → Contains st.frozen f → f.station ≡ s → ⊥

-- The state in which the test's station is frozen at this price.
abbrev frozen_at : ClockState → ClockTest → ℕ → ClockState
frozen_at st t p = record {
  on_air = st.on_air;
  frozen = st.frozen ++ record { station = t.station; round = t.round; price = p } ∷ [];
  active = without st.active t.station;
}

module _ (book : BookView) (undecided : List ClockTest) where
  -- The test freezes its station with this entry.
  pub record Freezes (sc : Scenario) (s : ℕ) (st : ClockState) (t : ClockTest) (f : FrozenAt) : Type 0 where
    pub no_room : has_room sc book undecided st t ≡ false
    pub price : f.price ≡ offer sc s (t.round - 1)
    pub now : Contains (freezes sc st t).frozen f

  -- The test leaves its station active.
  pub record Stays (sc : Scenario) (st : ClockState) (t : ClockTest) : Type 0 where
    pub room : has_room sc book undecided st t ≡ true
    pub bids_on : exits sc t ≡ false
    pub same : after_test sc book undecided st t ≡ st

  -- Whether a test finds room doesn't depend on values.
  pub same_room : (s : ℕ) (A B : Scenario) (st : ClockState) (t : ClockTest) → AgreeBut s A B → has_room A book undecided st t ≡ has_room B book undecided st t
  same_room s A B st t agree = ap (λ fs. fits book (filter (λ f. is_on_air st f || (eqb f t.station)) fs) && not (is_listed undecided t)) agree.same_facilities

  -- What a test pays doesn't depend on values.
  pub same_freeze : (s : ℕ) (A B : Scenario) (st : ClockState) (t : ClockTest) → AgreeBut s A B → freezes A st t ≡ freezes B st t
  same_freeze s A B st t agree = ap (λ p. frozen_at st t p) (agree.same_offers t.station (t.round - 1))

  -- When the other stations go on air doesn't depend on values.
  pub same_exits : (s : ℕ) (A B : Scenario) (t : ClockTest) → AgreeBut s A B → (t.station ≡ s → ⊥) → exits A t ≡ exits B t
  same_exits s A B t agree other =
      ap (λ n. (eqb t.round n) || declines A t.station t.round) agree.same_last ∙ ap (λ b. (eqb t.round (last_round B)) || b) (agree.same_others t.station t.round other)

  -- A test of another station leads to the same state in both scenarios.
  pub same_others_test : (s : ℕ) (A B : Scenario) (st : ClockState) (t : ClockTest) → AgreeBut s A B → (t.station ≡ s → ⊥) → after_test A book undecided st t ≡ after_test B book undecided st t
  same_others_test s A B st t agree other =
      let room = same_room s A B st t agree in
      let out = same_exits s A B t agree other in
      test_cases book undecided (λ z. z ≡ after_test B book undecided st t) A st t
      (λ idle. sym (test_idle book undecided B st t idle))
      (λ active no_room. same_freeze s A B st t agree ∙ sym (test_freezes book undecided B st t active (sym room ∙ no_room)))
      (λ active has out_a. sym (test_exits book undecided B st t active (sym room ∙ has) (sym out ∙ out_a)))
      (λ active has out_a. sym (test_stays book undecided B st t active (sym room ∙ has) (sym out ∙ out_a)))

  -- A test of a station that ends frozen, while the station is active, freezes it with its final entry or leaves it active.
  pub test_of_frozen : (sc : Scenario) (s : ℕ) (t : ClockTest) (ts : List ClockTest) (st : ClockState) (f : FrozenAt) →
      t.station ≡ s → f.station ≡ s → is_active st s ≡ true → Unfrozen st s →
      Contains (after_tests sc book undecided (t ∷ ts) st).frozen f →
      Freezes sc s st t f ⊎ Stays sc st t
  test_of_frozen sc s t ts st f same of_s active unfrozen h =
      let gone : is_active (goes_on_air st t) f.station ≡ false = subst (λ x. is_in (without st.active t.station) x ≡ false) (same ∙ sym of_s) (is_in-without st.active t.station) in
      test_cases book undecided (λ z. after_test sc book undecided st t ≡ z → Freezes sc s st t f ⊎ Stays sc st t) sc st t
      (λ idle _. absurd (true≢false (sym active ∙ (ap (is_active st) (sym same) ∙ idle))))
      (λ _ no_room e.
      let before = run_was_frozen book undecided sc ts (freezes sc st t) f gone (subst (λ z. Contains (after_tests sc book undecided ts z).frozen f) e h) in
      elim (Contains-push_cases st.frozen _ f before) [
        | inl old ↦ absurd (unfrozen.nowhere f old of_s)
        | inr new ↦ inl (record {
          no_room = no_room;
          price = sym (ap (λ (x : FrozenAt). x.price) new) ∙ ap (λ x. offer sc x (t.round - 1)) same;
          now = before;
        })
      ])
      (λ _ _ _ e. absurd (unfrozen.nowhere f (run_was_frozen book undecided sc ts (goes_on_air st t) f gone (subst (λ z. Contains (after_tests sc book undecided ts z).frozen f) e h)) of_s))
      (λ _ has out e. inr (record { room = has; bids_on = out; same = e }))
      refl

  -- A test of another station doesn't freeze this one.
  pub unfrozen_other : (sc : Scenario) (s : ℕ) (st : ClockState) (t : ClockTest) → (t.station ≡ s → ⊥) → Unfrozen st s → Unfrozen (after_test sc book undecided st t) s
  unfrozen_other sc s st t other unfrozen = record {
    nowhere = λ f h of_s.
        unfrozen.nowhere f (was_frozen book undecided sc st t f (λ same. absurd (other (same ∙ of_s))) h) of_s;
  }

  -- The run of the remaining tests, if a test leaves the state.
  rest_of : (sc : Scenario) (t : ClockTest) (ts : List ClockTest) (st : ClockState) (f : FrozenAt) → after_test sc book undecided st t ≡ st → Contains (after_tests sc book undecided (t ∷ ts) st).frozen f → Contains (after_tests sc book undecided ts st).frozen f
  rest_of sc t ts st f same h = subst (λ z. Contains (after_tests sc book undecided ts z).frozen f) same h

  -- What a station is paid doesn't depend on its value: if it is frozen in both, it has one price.
  pub one_price : (s : ℕ) (A B : Scenario) (ts : List ClockTest) (st : ClockState) (f g : FrozenAt) →
      AgreeBut s A B → is_active st s ≡ true → Unfrozen st s → f.station ≡ s → g.station ≡ s →
      Contains (after_tests A book undecided ts st).frozen f → Contains (after_tests B book undecided ts st).frozen g → f.price ≡ g.price
  one_price s A B [] st f g agree active unfrozen of_s g_of_s in_a in_b = absurd (unfrozen.nowhere f in_a of_s)
  one_price s A B (t ∷ ts) st f g agree active unfrozen of_s g_of_s in_a in_b =
      let room = same_room s A B st t agree in
      (elim (eqb t.station s) as (λ b. eqb t.station s ≡ b → f.price ≡ g.price) [
        | true ↦ λ is_s.
            let same = eqb-true t.station s is_s in
            elim (test_of_frozen A s t ts st f same of_s active unfrozen in_a) [
              | inl froze_a ↦ elim (test_of_frozen B s t ts st g same g_of_s active unfrozen in_b) [
                | inl froze_b ↦ froze_a.price ∙ (agree.same_offers s (t.round - 1) ∙ sym froze_b.price)
                | inr stays_b ↦ absurd (false≢true (sym froze_a.no_room ∙ (room ∙ stays_b.room)))
              ]
              | inr stays_a ↦ elim (test_of_frozen B s t ts st g same g_of_s active unfrozen in_b) [
                | inl froze_b ↦ absurd (true≢false (sym stays_a.room ∙ (room ∙ froze_b.no_room)))
                | inr stays_b ↦ one_price s A B ts st f g agree active unfrozen of_s g_of_s (rest_of A t ts st f stays_a.same in_a) (rest_of B t ts st g stays_b.same in_b)
              ]
            ]
        | false ↦ λ not_s.
            let other = eqb-false t.station s not_s in
            one_price s A B ts (after_test A book undecided st t) f g agree (stays_active book undecided A st t s other active) (unfrozen_other A s st t other unfrozen) of_s g_of_s in_a
            (subst (λ z. Contains (after_tests B book undecided ts z).frozen g) (sym (same_others_test s A B st t agree other)) in_b)
      ]) refl

  -- No station is paid less than its value.
  pub paid_at_least : (s v k : ℕ) (sc : Scenario) (ts : List ClockTest) (st : ClockState) (f : FrozenAt) →
      Bids sc s v → OneEachRound s k ts → v ≤ offer sc s k → is_active st s ≡ true → Unfrozen st s → f.station ≡ s →
      Contains (after_tests sc book undecided ts st).frozen f → v ≤ f.price
  paid_at_least s v k sc [] st f bids each accepts active unfrozen of_s h = absurd (unfrozen.nowhere f h of_s)
  paid_at_least s v k sc (t ∷ ts) st f bids each accepts active unfrozen of_s h =
      (elim (eqb t.station s) as (λ b. eqb t.station s ≡ b → MatchBool b ((t.round ≡ k + 1) × OneEachRound s (k + 1) ts) (OneEachRound s k ts) → v ≤ f.price) [
        | true ↦ λ is_s rounds.
            let same = eqb-true t.station s is_s in
            elim (test_of_frozen sc s t ts st f same of_s active unfrozen h) [
              | inl froze ↦
                  let before : k ≡ t.round - 1 = omega (arith, rounds.0) in
                  subst (λ p. v ≤ p) (sym froze.price) (subst (λ r. v ≤ offer sc s r) before accepts)
              | inr stays ↦
                  let bid = (or_parts (eqb t.round (last_round sc)) (declines sc t.station t.round) stays.bids_on).1 in
                  let bid_s : declines sc s (k + 1) ≡ false = subst (λ x. declines sc x (k + 1) ≡ false) same (subst (λ r. declines sc t.station r ≡ false) rounds.0 bid) in
                  paid_at_least s v (k + 1) sc ts st f bids rounds.1 (ltb-false (offer sc s (k + 1)) v (sym (bids.below (k + 1)) ∙ bid_s)) active unfrozen of_s (rest_of sc t ts st f stays.same h)
            ]
        | false ↦ λ not_s rounds.
            let other = eqb-false t.station s not_s in
            paid_at_least s v k sc ts (after_test sc book undecided st t) f bids rounds accepts (stays_active book undecided sc st t s other active) (unfrozen_other sc s st t other unfrozen) of_s h
      ]) refl each

  -- No station is paid more than it was offered in the last round that it got through.
  pub paid_at_most : (s k : ℕ) (sc : Scenario) (ts : List ClockTest) (st : ClockState) (f : FrozenAt) →
      OneEachRound s k ts → ((r : ℕ) → offer sc s (r + 1) ≤ offer sc s r) → is_active st s ≡ true → Unfrozen st s → f.station ≡ s →
      Contains (after_tests sc book undecided ts st).frozen f → f.price ≤ offer sc s k
  paid_at_most s k sc [] st f each falls active unfrozen of_s h = absurd (unfrozen.nowhere f h of_s)
  paid_at_most s k sc (t ∷ ts) st f each falls active unfrozen of_s h =
      (elim (eqb t.station s) as (λ b. eqb t.station s ≡ b → MatchBool b ((t.round ≡ k + 1) × OneEachRound s (k + 1) ts) (OneEachRound s k ts) → f.price ≤ offer sc s k) [
        | true ↦ λ is_s rounds.
            let same = eqb-true t.station s is_s in
            elim (test_of_frozen sc s t ts st f same of_s active unfrozen h) [
              | inl froze ↦
                  let before : t.round - 1 ≡ k = omega (arith, rounds.0) in
                  subst (λ p. p ≤ offer sc s k) (sym froze.price) (subst (λ r. offer sc s (t.round - 1) ≤ offer sc s r) before (le_refl _))
              | inr stays ↦ le_trans (paid_at_most s (k + 1) sc ts st f rounds.1 falls active unfrozen of_s (rest_of sc t ts st f stays.same h)) (falls k)
            ]
        | false ↦ λ not_s rounds.
            let other = eqb-false t.station s not_s in
            paid_at_most s k sc ts (after_test sc book undecided st t) f rounds falls (stays_active book undecided sc st t s other active) (unfrozen_other sc s st t other unfrozen) of_s h
      ]) refl each

  -- With a value that isn't above its payment in the first scenario, the station is frozen in the second too, by the same entry.
  pub frozen_too : (s v k : ℕ) (A B : Scenario) (ts : List ClockTest) (st : ClockState) (f : FrozenAt) →
      AgreeBut s A B → Bids B s v → v ≤ f.price → OneEachRound s k ts → ((r : ℕ) → offer A s (r + 1) ≤ offer A s r) →
      is_active st s ≡ true → Unfrozen st s → f.station ≡ s →
      Contains (after_tests A book undecided ts st).frozen f → Contains (after_tests B book undecided ts st).frozen f
  frozen_too s v k A B [] st f agree bids at_most each falls active unfrozen of_s h = absurd (unfrozen.nowhere f h of_s)
  frozen_too s v k A B (t ∷ ts) st f agree bids at_most each falls active unfrozen of_s h =
      (elim (eqb t.station s) as (λ b. eqb t.station s ≡ b → MatchBool b ((t.round ≡ k + 1) × OneEachRound s (k + 1) ts) (OneEachRound s k ts) → Contains (after_tests B book undecided (t ∷ ts) st).frozen f) [
        | true ↦ λ is_s rounds.
            let same = eqb-true t.station s is_s in
            let active_t : is_active st t.station ≡ true = ap (is_active st) same ∙ active in
            elim (test_of_frozen A s t ts st f same of_s active unfrozen h) [
              | inl froze ↦
                  let now : Contains (freezes B st t).frozen f = subst (λ z. Contains z.frozen f) (same_freeze s A B st t agree) froze.now in
                  run_frozen book undecided B ts _ f
                  (subst (λ z. Contains z.frozen f) (sym (test_freezes book undecided B st t active_t (sym (same_room s A B st t agree) ∙ froze.no_room))) now)
              | inr stays ↦
                  let later = rest_of A t ts st f stays.same h in
                  let paid = paid_at_most s (k + 1) A ts st f rounds.1 falls active unfrozen of_s later in
                  let enough : v ≤ offer B s (k + 1) = le_trans at_most (subst (λ p. f.price ≤ p) (agree.same_offers s (k + 1)) paid) in
                  let bid : declines B s (k + 1) ≡ false = bids.below (k + 1) ∙ le-ltb _ _ enough in
                  let bid_t : declines B t.station t.round ≡ false = subst (λ r. declines B t.station r ≡ false) (sym rounds.0) (subst (λ x. declines B x (k + 1) ≡ false) (sym same) bid) in
                  let not_last = (or_parts (eqb t.round (last_round A)) (declines A t.station t.round) stays.bids_on).0 in
                  let out : exits B t ≡ false = or_from _ _ (subst (λ n. eqb t.round n ≡ false) agree.same_last not_last) bid_t in
                  subst (λ z. Contains (after_tests B book undecided ts z).frozen f)
                  (sym (test_stays book undecided B st t active_t (sym (same_room s A B st t agree) ∙ stays.room) out))
                  (frozen_too s v (k + 1) A B ts st f agree bids at_most rounds.1 falls active unfrozen of_s later)
            ]
        | false ↦ λ not_s rounds.
            let other = eqb-false t.station s not_s in
            subst (λ z. Contains (after_tests B book undecided ts z).frozen f) (same_others_test s A B st t agree other)
            (frozen_too s v k A B ts (after_test A book undecided st t) f agree bids at_most rounds falls (stays_active book undecided A st t s other active) (unfrozen_other A s st t other unfrozen) of_s h)
      ]) refl each
