-- Whether the next test asks about the same stations as its station's test one round before, by the labels. For `clock_run::is_same`.
use Rattle.std.proofs.Common.{◌≡◌, ◌∙◌, ℕ, zero, suc, ◌+◌, ◌-◌, ◌≤◌, true, false, not, cond, ◌&&◌, ◌==◌, eqb, List, [], ◌∷◌, ◌++◌, map, get_or, Some, None, refl, sym, ap, subst, arith}
use Rattle.std.specs.Option.{option_map_or}
use Rattle.std.proofs.lemmas.Bool.{ne_eqb}
use Rattle.pack_defs.specs.declared.scenario.Scenario.{Scenario}
use Rattle.pack_defs.specs.Book.{BookView}
use Rattle.pack_defs.specs.Lists.{same_list}
use Rattle.pack_defs.specs.Prices.{last_round}
use Rattle.pack_defs.specs.ClockRule.{ClockState, ClockTest, after_answer, after_test, asked_from, bidders_in_order, clock_tests, is_active, opening_state, tests_of}
use Rattle.auction_core.specs.declared.record.Step.{Step}
use Rattle.auction_core.specs.Backed.{shown_start, undecided_of}
use Rattle.auction_core.specs.ClockRun.{ClockRunView, IsClockRun, IsDue, core_state, next_test, tests_left}
use Rattle.auction_core.specs.ComponentLabels.{last_seen, touches_since}
use Rattle.auction_core.specs.Setup.{IsSetupSound, SetupView}
use Rattle.auction_core.specs.State.{is_same, set_in, shows_room, start_fits, test_of, tested_set}
use Rattle.auction_core.proofs.ClockRunLemmas.{IsAt, sound-auction}
use Rattle.auction_core.proofs.ClockRunTests.{due-left}
use Rattle.auction_core.proofs.Since.{same-so-far}

-- ---- from round 2 on

pub same-later : (s : SetupView) (c : ClockRunView) (i : ℕ) → IsSetupSound s → start_fits c.start ≡ true → IsClockRun s c → IsDue s c → IsAt s c i → 2 ≤ c.round →
    is_same s.scenario s.book (core_state s c 0) (next_test s c) ≡ not (touches_since s.book c.test_history.component_labels (next_test s c).station (get_or c.test_history.seen i 0 + 1))
same-later s c i l running h due at late =
    let sc = s.scenario in
    let t = next_test s c in
    let g = h.rule running in
    let split : clock_tests sc s.order ≡ g.before ++ t ∷ tests_left s c.round (c.place_in_round + 1) = sym g.all_tests ∙ ap (λ z. g.before ++ z) (due-left s c running h due) in
    let seen : get_or c.test_history.seen i 0 ≡ last_seen sc (opening_state sc) c.test_history.steps t.station 0 = h.test_history.seen i at.within ∙ ap (λ f. last_seen sc (opening_state sc) c.test_history.steps f 0) at.station in
    same-so-far sc s.book (core_state s c 0) g.before (tests_left s c.round (c.place_in_round + 1)) t (shown_start c.start) c.test_history.component_labels (sound-auction s l) split g.progress.clock g.progress.tests refl due.active h.test_history.component_labels late
    ∙ ap (λ n. not (touches_since s.book c.test_history.component_labels t.station (n + 1))) (sym seen)

-- ---- in round 1 there is no earlier test

-- each test is of round 1 or later
abbrev AreLate : List ClockTest → Type 0
AreLate [] = Unit {0}
AreLate (t ∷ ts) = (1 ≤ t.round) × AreLate ts

late-append : (xs ys : List ClockTest) → AreLate xs → AreLate ys → AreLate (xs ++ ys)
late-append [] ys a b = b
late-append (x ∷ xs) ys a b = (a.0, late-append xs ys a.1 b)

late-first : (xs ys : List ClockTest) → AreLate (xs ++ ys) → AreLate xs
late-first [] ys h = tt
late-first (x ∷ xs) ys h = (h.0, late-first xs ys h.1)

late-round : (stations : List ℕ) (r : ℕ) → 1 ≤ r → AreLate (map (λ f. record { round = r; station = f }) stations)
late-round [] r h = tt
late-round (f ∷ fs) r h = (h, late-round fs r h)

late-tests : (stations : List ℕ) (r n : ℕ) → 1 ≤ r → AreLate (tests_of stations r n)
late-tests stations r zero h = tt
late-tests stations r (suc n) h = late-append _ (tests_of stations (r + 1) n) (late-round stations r h) (late-tests stations (r + 1) n (omega (arith, h)))

late-asked : (sc : Scenario) (book : BookView) (U ts : List ClockTest) (st : ClockState) → AreLate ts → AreLate (asked_from sc book U ts st)
late-asked sc book U [] st h = tt
late-asked sc book U (t ∷ ts) st h =
    let next : ClockState = after_test sc book U st t in
    elim (is_active st t.station) as (λ b. AreLate (cond b (t ∷ asked_from sc book U ts next) (asked_from sc book U ts st))) [
      | true ↦ (h.0, late-asked sc book U ts next h.1)
      | false ↦ late-asked sc book U ts st h.1
    ]

none-of-round : (sc : Scenario) (book : BookView) (c : ClockState) (xs : List Step) (s : ℕ) → AreLate (map test_of xs) → set_in sc book c xs 0 s ≡ None
none-of-round sc book c [] s h = refl
none-of-round sc book c (x ∷ xs) s h =
    let later : eqb x.round 0 ≡ false = ne_eqb x.round 0 (λ e. let first = h.0 in absurd (omega (arith, first, e))) in
    ap (λ b. cond (b && (x.station == s)) (Some (tested_set sc book c s)) (set_in sc book (after_answer sc c (test_of x) (shows_room x.shown)) xs 0 s)) later
    ∙ none-of-round sc book (after_answer sc c (test_of x) (shows_room x.shown)) xs s h.1

pub same-first : (s : SetupView) (c : ClockRunView) → start_fits c.start ≡ true → IsClockRun s c → c.round ≡ 1 → is_same s.scenario s.book (core_state s c 0) (next_test s c) ≡ false
same-first s c running h first =
    let sc = s.scenario in
    let f : ℕ = (next_test s c).station in
    let g = h.rule running in
    let before : AreLate g.before = late-first g.before _ (subst AreLate (sym g.all_tests) (late-tests (bidders_in_order sc s.order) 1 (last_round sc) (omega arith))) in
    let steps : AreLate (map test_of c.test_history.steps) = subst AreLate (sym g.progress.tests) (late-asked sc s.book (undecided_of c.test_history.steps) g.before (opening_state sc) before) in
    let none : set_in sc s.book (opening_state sc) c.test_history.steps (c.round - 1) f ≡ None = ap (λ r. set_in sc s.book (opening_state sc) c.test_history.steps (r - 1) f) first ∙ none-of-round sc s.book (opening_state sc) c.test_history.steps f steps in
    ap (λ o. option_map_or (same_list (tested_set sc s.book (core_state s c 0).clock f)) o false) none
