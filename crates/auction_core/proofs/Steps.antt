-- One more settled test: the state stays where the clock rule leads.
use Rattle.std.proofs.Common.{◌≡◌, ℕ, ◌+◌, ◌≤◌, Bool, true, false, not, cond, ◌==◌, ◌&&◌, if◌then◌else◌, List, [], ◌∷◌, ◌++◌, map, Option, Some, None, count_by, Contains, refl, sym, ap, ◌∙◌, subst, ⊎_elim, arith, eqb-true, eq-eqb, append_assoc, append-nil}
use Rattle.std.specs.List.{list_any, cons_option}
use Rattle.std.proofs.lemmas.Bool.{and_parts, and_from, or_cases, or_left, or_right, both_ways, false_from_ne_true, cases_Bool}
use Rattle.std.proofs.lemmas.List.Sums.{sum_by-cons}
use Rattle.pack_defs.proofs.Members.{is_in-gives}
use Rattle.pack_defs.specs.Book.{BookView}
use Rattle.pack_defs.specs.Lists.{is_in}
use Rattle.pack_defs.specs.declared.scenario.Scenario.{Scenario}
use Rattle.pack_defs.specs.Scenario.{facilities}
use Rattle.pack_defs.specs.Prices.{bidders, declines}
use Rattle.pack_defs.specs.StationEntries.{station_entry_count}
use Rattle.pack_defs.specs.ClockRule.{ClockState, ClockTest, OnAirSince, clock_tests, opening_state, is_active, is_on_air, is_listed, after_test, after_tests, asked_from}
use Rattle.pack_defs.proofs.ClockSteps.{run_inactive}
use Rattle.pack_defs.proofs.StationEntryLemmas.{each_once}
use Rattle.pack_defs.proofs.TestOrder.{no_test_twice}
use Rattle.auction_core.specs.declared.record.Shown.{Shown}
use Rattle.auction_core.specs.declared.record.Step.{Step}
use Rattle.auction_core.specs.State.{CoreState, test_of, settled}
use Rattle.auction_core.specs.Backed.{is_undecided, undecided_of, IsStepShown, after_steps, AreShown}
use Rattle.auction_core.specs.Rule.{IsAuction}
use Rattle.auction_core.specs.ClockProgress.{IsClockProgress}
use Rattle.auction_core.proofs.Answers.{filter-in}

-- ---- lists of steps and of tests

pub after_steps-steps : (sc : Scenario) (st : CoreState) (xs : List Step) → (after_steps sc st xs).steps ≡ st.steps ++ xs
after_steps-steps sc st [] = sym (append-nil st.steps)
after_steps-steps sc st (y ∷ ys) = after_steps-steps sc (settled sc st (test_of y) y.shown) ys ∙ append_assoc st.steps (y ∷ []) ys

pub after_steps-push : (sc : Scenario) (st : CoreState) (xs : List Step) (x : Step) → after_steps sc st (xs ++ x ∷ []) ≡ settled sc (after_steps sc st xs) (test_of x) x.shown
after_steps-push sc st [] x = refl
after_steps-push sc st (y ∷ ys) x = after_steps-push sc (settled sc st (test_of y) y.shown) ys x

pub AreShown-push : (sc : Scenario) (book : BookView) (st : CoreState) (xs : List Step) (x : Step) → AreShown sc book st xs → IsStepShown sc book (after_steps sc st xs) x → AreShown sc book st (xs ++ x ∷ [])
AreShown-push sc book st [] x h k = (k, tt)
AreShown-push sc book st (y ∷ ys) x h k = (h.0, AreShown-push sc book (settled sc st (test_of y) y.shown) ys x h.1 k)

pub map-push : (xs : List Step) (x : Step) → map test_of (xs ++ x ∷ []) ≡ map test_of xs ++ test_of x ∷ []
map-push [] x = refl
map-push (y ∷ ys) x = ap (λ zs. test_of y ∷ zs) (map-push ys x)

cons_push : (o : Option ClockTest) (us : List ClockTest) (t : ClockTest) → cons_option o (us ++ t ∷ []) ≡ cons_option o us ++ t ∷ []
cons_push None us t = refl
cons_push (Some u) us t = refl

abbrev kept_test : Step → Option ClockTest
kept_test x = if is_undecided x.shown then Some (test_of x) else None

pub undecided-push-false : (xs : List Step) (x : Step) → is_undecided x.shown ≡ false → undecided_of (xs ++ x ∷ []) ≡ undecided_of xs
undecided-push-false [] x e = ap (λ b. cons_option (if b then Some (test_of x) else None) []) e
undecided-push-false (y ∷ ys) x e = ap (cons_option (kept_test y)) (undecided-push-false ys x e)

pub undecided-push-true : (xs : List Step) (x : Step) → is_undecided x.shown ≡ true → undecided_of (xs ++ x ∷ []) ≡ undecided_of xs ++ test_of x ∷ []
undecided-push-true [] x e = ap (λ b. cons_option (if b then Some (test_of x) else None) []) e
undecided-push-true (y ∷ ys) x e = ap (cons_option (kept_test y)) (undecided-push-true ys x e) ∙ cons_push (kept_test y) (undecided_of ys) (test_of x)

abbrev pub same_test : ClockTest → ClockTest → Bool
same_test u t = (u.round == t.round) && (u.station == t.station)

pub same-back : (u t : ClockTest) → same_test u t ≡ true → same_test t u ≡ true
same-back u t same =
    let parts = and_parts (u.round == t.round) (u.station == t.station) same in
    and_from (t.round == u.round) (t.station == u.station) (eq-eqb t.round u.round (sym (eqb-true u.round t.round parts.0))) (eq-eqb t.station u.station (sym (eqb-true u.station t.station parts.1)))

listed-kept : (b : Bool) (u t : ClockTest) (us vs : List ClockTest) → (is_listed us t ≡ true → is_listed vs t ≡ true) → is_listed (cons_option (if b then Some u else None) us) t ≡ true → is_listed (u ∷ vs) t ≡ true
listed-kept true u t us vs f h = ⊎_elim (λ l. or_left (same_test u t) (is_listed vs t) l) (λ r. or_right (same_test u t) (is_listed vs t) (f r)) (or_cases (same_test u t) (is_listed us t) h)
listed-kept false u t us vs f h = or_right (same_test u t) (is_listed vs t) (f h)

pub listed-undecided : (xs : List Step) (t : ClockTest) → is_listed (undecided_of xs) t ≡ true → is_listed (map test_of xs) t ≡ true
listed-undecided [] t h = h
listed-undecided (x ∷ xs) t h = listed-kept (is_undecided x.shown) (test_of x) t (undecided_of xs) (map test_of xs) (listed-undecided xs t) h

pub listed-asked : (sc : Scenario) (book : BookView) (U ts : List ClockTest) (st : ClockState) (t : ClockTest) → is_listed (asked_from sc book U ts st) t ≡ true → is_listed ts t ≡ true
listed-asked sc book U [] st t h = h
listed-asked sc book U (u ∷ us) st t h =
    let next : ClockState = after_test sc book U st u in
    let go : (b : Bool) → is_listed (if b then u ∷ asked_from sc book U us next else asked_from sc book U us st) t ≡ true → is_listed (u ∷ us) t ≡ true = λ b. elim b as (λ b. is_listed (if b then u ∷ asked_from sc book U us next else asked_from sc book U us st) t ≡ true → is_listed (u ∷ us) t ≡ true) [
      | true ↦ λ k. ⊎_elim (λ l. or_left (same_test u t) (is_listed us t) l) (λ r. or_right (same_test u t) (is_listed us t) (listed-asked sc book U us next t r)) (or_cases (same_test u t) (is_listed (asked_from sc book U us next) t) k)
      | false ↦ λ k. or_right (same_test u t) (is_listed us t) (listed-asked sc book U us st t k)
    ] in
    go (is_active st u.station) h

-- ---- the state after some tests

-- the next test is not one of the undecided ones
pub new-test : (sc : Scenario) (book : BookView) (start : Shown) (state : CoreState) (before after : List ClockTest) (t : ClockTest) → IsAuction sc book → IsClockProgress sc book start state before → clock_tests sc state.order ≡ before ++ t ∷ after → is_listed (undecided_of state.steps) t ≡ false
new-test sc book start state before after t a w parts =
    false_from_ne_true (is_listed (undecided_of state.steps) t) (λ yes.
    both_ways (is_listed before t) (no_test_twice sc state.order before after t a.stations parts)
    (listed-asked sc book (undecided_of state.steps) before (opening_state sc) t
    (subst (λ us. is_listed us t ≡ true) w.tests (listed-undecided state.steps t yes))))

-- an active station was active at the opening, so it is one of the scenario's bidders
pub bidder : (sc : Scenario) (book : BookView) (U before : List ClockTest) (clock : ClockState) (s : ℕ) → clock ≡ after_tests sc book U before (opening_state sc) → is_active clock s ≡ true → Contains (facilities sc) s
bidder sc book U before clock s e active =
    let then' : is_active (after_tests sc book U before (opening_state sc)) s ≡ true = subst (λ c. is_active c s ≡ true) e active in
    let first : is_in (bidders sc) s ≡ true = ⊎_elim (λ y. y) (λ (n : is_active (opening_state sc) s ≡ false). absurd (both_ways (is_active (after_tests sc book U before (opening_state sc)) s) (run_inactive book U sc before (opening_state sc) s n) then')) (cases_Bool (is_active (opening_state sc) s)) in
    is_in-gives (facilities sc) s (filter-in (λ s. not (declines sc s 0)) (facilities sc) s first).0

one-more : {A : Type 0} (p : A → Bool) (xs : List A) → list_any p xs ≡ true → 1 ≤ count_by p xs
one-more p [] h = cc
one-more p (x ∷ xs) h =
    let c = sum_by-cons (λ x. cond (p x) 1 0) x xs in
    let go : (b : Bool) → p x ≡ b → 1 ≤ cond b 1 0 + count_by p xs = λ b. elim b as (λ b. p x ≡ b → 1 ≤ cond b 1 0 + count_by p xs) [
      | true ↦ λ e. omega arith
      | false ↦ λ e.
          let rest : list_any p xs ≡ true = ⊎_elim (λ (y : p x ≡ true). absurd (both_ways (p x) e y)) (λ r. r) (or_cases (p x) (list_any p xs) h) in
          let more = one-more p xs rest in
          omega arith
    ] in
    let step = go (p x) refl in
    omega arith

-- an active station is not on air
pub not-on-air : (sc : Scenario) (book : BookView) (U before : List ClockTest) (clock : ClockState) (s : ℕ) → IsAuction sc book → clock ≡ after_tests sc book U before (opening_state sc) → is_active clock s ≡ true → is_on_air clock s ≡ false
not-on-air sc book U before clock s a e active =
    false_from_ne_true (is_on_air clock s) (λ yes.
    let once : station_entry_count clock s ≡ 1 = subst (λ c. station_entry_count c s ≡ 1) (sym e) (each_once sc book U before s a.stations (bidder sc book U before clock s e active)) in
    let on = one-more (λ (x : OnAirSince). x.station == s) clock.on_air yes in
    let still = one-more (λ (x : ℕ). x == s) clock.active active in
    absurd (omega arith))
