-- The steps of a backed record follow the clock rule.
use Rattle.std.proofs.Common.{◌≡◌, ℕ, zero, suc, ◌+◌, ◌<◌, ◌≤◌, Bool, true, false, if◌then◌else◌, inl, inr, List, [], ◌∷◌, ◌++◌, map, take, length, get_or, refl, sym, ap, ◌∙◌, subst, arith, Contains}
use Rattle.std.proofs.lemmas.List.{take_more}
use Rattle.std.proofs.lemmas.List.Elements.{Contains-append_cases, Contains-get_or}
use Rattle.pack_defs.specs.declared.order.Order.{Order}
use Rattle.pack_defs.specs.declared.scenario.Scenario.{Scenario}
use Rattle.pack_defs.specs.Scenario.{facilities}
use Rattle.pack_defs.specs.Book.{BookView}
use Rattle.pack_defs.specs.Prices.{last_round}
use Rattle.pack_defs.specs.ClockRule.{ClockTest, ClockState, after_test, after_tests, asked_from, asked_tests, bidders_in_order, clock_rule, clock_tests, is_active, is_listed, opening_state, tests_of, round_order}
use Rattle.pack_defs.proofs.ClockSteps.{test_idle}
use Rattle.pack_defs.proofs.TestOrder.{TestsApart, clock_apart, in_turn}
use Rattle.pack_defs.proofs.RoundOrderLemmas.{turns-have}
use Rattle.pack_defs.proofs.Members.{Contains-cons_cases, Contains-from_filter, Contains-from_map, Contains-here, Contains-map, Contains-nil, Contains-there, is_in-from, is_in-gives}
use Rattle.auction_core.specs.declared.record.Record.{Record}
use Rattle.auction_core.specs.declared.record.Step.{Step}
use Rattle.auction_core.specs.declared.record.Ending.TheVariants.{Done}
use Rattle.auction_core.specs.State.{CoreState, settled, shows_room, test_of}
use Rattle.auction_core.specs.Backed.{AreShown, IsBacked, IsCompleted, IsEnded, after_start, after_steps, is_undecided, undecided_of}
use Rattle.auction_core.specs.Rule.{IsAuction}
use Rattle.auction_core.specs.ClockProgress.{FitsStayClean}
use Rattle.auction_core.proofs.Done.{AreListed, asked-apart, done-room, listed-shown, step-moves}
use Rattle.auction_core.proofs.Room.{IsOf, new-map}
use Rattle.auction_core.proofs.Sets.{fits-stand-first, fits-stand-step}
use Rattle.auction_core.proofs.Starts.{start-map}
use Rattle.auction_core.proofs.Steps.{after_steps-push}
use Rattle.auction_core.proofs.Walk.{off-air, ready}

-- ---- the clock's tests

tests_of-has : (xs : List ℕ) (r n : ℕ) (t : ClockTest) → Contains (tests_of xs r n) t → Contains xs t.station × (r ≤ t.round) × (t.round < r + n)
tests_of-has xs r zero t h = absurd (Contains-nil t h)
tests_of-has xs r (suc n) t h =
    elim (Contains-append_cases (map (λ s. record { round = r; station = s }) xs) (tests_of xs (r + 1) n) t h) [
      | inl here ↦
          let (s, there, same) = Contains-from_map (λ s. record { round = r; station = s }) xs t here in
          let round : r ≡ t.round = ap (λ (u : ClockTest). u.round) same in
          (subst (λ z. Contains xs z) (ap (λ (u : ClockTest). u.station) same) there, omega arith, omega arith)
      | inr later ↦
          let rest = tests_of-has xs (r + 1) n t later in
          (rest.0, omega (arith, rest.1), omega (arith, rest.2))
    ]

-- A test of the clock is of a station of the scenario, in one of its rounds.
clock_tests-has : (sc : Scenario) (order : Order) (t : ClockTest) → Contains (clock_tests sc order) t → Contains (facilities sc) t.station × (1 ≤ t.round) × (t.round ≤ last_round sc)
clock_tests-has sc order t h =
    let has = tests_of-has (bidders_in_order sc order) 1 (last_round sc) t h in
    let comes = (Contains-from_filter _ (round_order sc order) t.station has.0).0 in
    (is_in-gives (facilities sc) t.station (sym (turns-have sc order t.station) ∙ is_in-from (round_order sc order) t.station comes), has.1, omega (arith, has.2))

-- Every test that the rule asks is among the tests.
asked_from-has : (sc : Scenario) (book : BookView) (undecided tests : List ClockTest) (st : ClockState) (t : ClockTest) → Contains (asked_from sc book undecided tests st) t → Contains tests t
asked_from-has sc book undecided [] st t h = h
asked_from-has sc book undecided (u ∷ tests) st t h =
    (elim (is_active st u.station) as (λ b. Contains (if b then u ∷ asked_from sc book undecided tests (after_test sc book undecided st u) else asked_from sc book undecided tests st) t → Contains (u ∷ tests) t) [
      | true ↦ λ m. elim (Contains-cons_cases u t _ m) [
        | inl same ↦ subst (λ z. Contains (u ∷ tests) z) same (Contains-here u tests)
        | inr later ↦ Contains-there u t tests (asked_from-has sc book undecided tests (after_test sc book undecided st u) t later)
      ]
      | false ↦ λ m. Contains-there u t tests (asked_from-has sc book undecided tests st t m)
    ]) h

-- ---- steps in order

-- Whether each step is of a station that is active at that step.
abbrev AreAsked : Scenario → CoreState → List Step → Type 0
AreAsked sc state [] = Unit {0}
AreAsked sc state (x ∷ xs) = (is_active state.clock x.station ≡ true) × AreAsked sc (settled sc state (test_of x) x.shown) xs

-- Whether each step is of an active station, and the clock follows the rule through these tests.
record FollowsRule (sc : Scenario) (book : BookView) (U ts : List ClockTest) (state : CoreState) (steps : List Step) : Type 0 where
  asked : AreAsked sc state steps
  clock : (after_steps sc state steps).clock ≡ after_tests sc book U ts state.clock

-- Whether the steps are the tests left that the rule asks, each settled correctly.
record IsLeft (sc : Scenario) (book : BookView) (U ts : List ClockTest) (state : CoreState) (steps : List Step) : Type 0 where
  on_air : IsOf sc book state.clock state.map
  fits : FitsStayClean sc book state
  tests : map test_of steps ≡ asked_from sc book U ts state.clock
  shown : AreShown sc book state steps
  listed : AreListed U steps

-- If the next test is asked, the first step is its step.
asked-follows : (sc : Scenario) (book : BookView) (U ts : List ClockTest) (state : CoreState) (x : Step) (xs : List Step) → is_active state.clock x.station ≡ true → (settled sc state (test_of x) x.shown).clock ≡ after_test sc book U state.clock (test_of x) → FollowsRule sc book U ts (settled sc state (test_of x) x.shown) xs → FollowsRule sc book U (test_of x ∷ ts) state (x ∷ xs)
asked-follows sc book U ts state x xs active moved rest =
    record { asked = (active, rest.asked); clock = rest.clock ∙ ap (after_tests sc book U ts) moved }

follows : (sc : Scenario) (book : BookView) (U ts done : List ClockTest) (state : CoreState) (xs : List Step) → IsAuction sc book → state.clock ≡ after_tests sc book U done (opening_state sc) → IsLeft sc book U ts state xs → FollowsRule sc book U ts state xs
follows sc book U [] done state [] a e left = record { asked = tt; clock = refl }
follows sc book U [] done state (x ∷ xs) a e left = let none = left.tests in cc
follows sc book U (t ∷ ts) done state xs a e left =
    let next : ClockTest → ClockState = λ u. after_test sc book U state.clock u in
    let turn : (u : ClockTest) → next u ≡ after_tests sc book U (done ++ u ∷ []) (opening_state sc) = λ u.
    ap (λ c. after_test sc book U c u) e ∙ sym (in_turn sc book U done (u ∷ []) (opening_state sc)) in
    let first : (x : Step) (ys : List Step) → is_active state.clock x.station ≡ true → map test_of ys ≡ asked_from sc book U ts (next (test_of x)) → AreShown sc book state (x ∷ ys) → AreListed U (x ∷ ys) → FollowsRule sc book U (test_of x ∷ ts) state (x ∷ ys) = λ x ys active m s l.
    let r = ready sc book U done state x.station a e left.on_air active in
    let moved : (settled sc state (test_of x) x.shown).clock ≡ next (test_of x) = step-moves sc book U state x r left.fits active s.0 (l x (Contains-here x ys)) in
    asked-follows sc book U ts state x ys active moved
    (follows sc book U ts (done ++ test_of x ∷ []) (settled sc state (test_of x) x.shown) ys a (moved ∙ turn (test_of x)) (record {
      on_air = new-map sc book state (test_of x) x.shown r left.fits active s.0;
      fits = fits-stand-step sc book state (test_of x) x.shown a (off-air sc book U done state.clock a e) active left.fits s.0;
      tests = m ∙ ap (asked_from sc book U ts) (sym moved);
      shown = s.1;
      listed = λ y c. l y (Contains-there x y ys c);
    })) in
    let asked : (ys : List Step) → is_active state.clock t.station ≡ true → map test_of ys ≡ t ∷ asked_from sc book U ts (next t) → AreShown sc book state ys → AreListed U ys → FollowsRule sc book U (t ∷ ts) state ys = λ ys active. elim ys as (λ ys. map test_of ys ≡ t ∷ asked_from sc book U ts (next t) → AreShown sc book state ys → AreListed U ys → FollowsRule sc book U (t ∷ ts) state ys) [
      | [] ↦ λ m s l. cc
      | x ∷ ys ↦ λ m s l.
          let same : test_of x ≡ t = cc in
          let rest : map test_of ys ≡ asked_from sc book U ts (next t) = cc in
          (subst (λ u. is_active state.clock u.station ≡ true → map test_of ys ≡ asked_from sc book U ts (next u) → FollowsRule sc book U (u ∷ ts) state (x ∷ ys)) same
          (λ active m. first x ys active m s l)) active rest
    ] in
    let go : (b : Bool) → is_active state.clock t.station ≡ b → map test_of xs ≡ (if b then t ∷ asked_from sc book U ts (next t) else asked_from sc book U ts state.clock) → FollowsRule sc book U (t ∷ ts) state xs = λ b. elim b as (λ b. is_active state.clock t.station ≡ b → map test_of xs ≡ (if b then t ∷ asked_from sc book U ts (next t) else asked_from sc book U ts state.clock) → FollowsRule sc book U (t ∷ ts) state xs) [
      | true ↦ λ active m. asked xs active m left.shown left.listed
      | false ↦ λ idle m.
          let same : next t ≡ state.clock = test_idle book U sc state.clock t idle in
          let rest = follows sc book U ts (done ++ t ∷ []) state xs a (sym same ∙ turn t) (record { on_air = left.on_air; fits = left.fits; tests = m; shown = left.shown; listed = left.listed }) in
          record { asked = rest.asked; clock = rest.clock ∙ ap (after_tests sc book U ts) (sym same) }
    ] in
    go (is_active state.clock t.station) refl left.tests

-- ---- the first steps, and one more

after_steps_more : (sc : Scenario) (state : CoreState) (xs : List Step) (k : ℕ) (d : Step) → k < length xs → after_steps sc state (take (k + 1) xs) ≡ settled sc (after_steps sc state (take k xs)) (test_of (get_or xs k d)) (get_or xs k d).shown
after_steps_more sc state xs k d h = ap (after_steps sc state) (take_more xs k d h) ∙ after_steps-push sc state (take k xs) (get_or xs k d)

-- The step at a place is of a station that is active at that step.
asked_at : (sc : Scenario) (state : CoreState) (xs : List Step) (k : ℕ) (d : Step) → AreAsked sc state xs → k < length xs → is_active (after_steps sc state (take k xs)).clock (get_or xs k d).station ≡ true
asked_at sc state [] k d asked h = absurd (omega arith)
asked_at sc state (x ∷ xs) zero d asked h = asked.0
asked_at sc state (x ∷ xs) (suc k) d asked h = asked_at sc (settled sc state (test_of x) x.shown) xs k d asked.1 (omega arith)

-- ---- a backed record

-- The contents of the record of a finished auction.
pub carried-through : (sc : Scenario) (book : BookView) (rec : Record) → IsBacked sc book rec.order rec → rec.ending ≡ Done → IsCompleted sc book rec.order rec
carried-through sc book rec backed done = subst (IsEnded sc book rec.order rec) done backed.rest

-- A step's test is among the undecided exactly if the step is undecided.
record-listed : (sc : Scenario) (book : BookView) (rec : Record) → IsAuction sc book → IsCompleted sc book rec.order rec → AreListed (undecided_of rec.steps) rec.steps
unfolding asked_tests
record-listed sc book rec a carried =
    listed-shown rec.steps (subst TestsApart (sym carried.tests) (asked-apart sc book (undecided_of rec.steps) (clock_tests sc rec.order) (opening_state sc) (clock_apart sc rec.order a.stations)))

record-follows : (sc : Scenario) (book : BookView) (rec : Record) → IsAuction sc book → IsBacked sc book rec.order rec → rec.ending ≡ Done → FollowsRule sc book (undecided_of rec.steps) (clock_tests sc rec.order) (after_start sc rec.order rec.start) rec.steps
unfolding asked_tests
record-follows sc book rec a backed done =
    let carried = carried-through sc book rec backed done in
    let room : shows_room rec.start ≡ true = done-room rec.start (sym backed.ending ∙ done) in
    follows sc book (undecided_of rec.steps) (clock_tests sc rec.order) [] (after_start sc rec.order rec.start) rec.steps a refl (record {
      on_air = start-map sc book rec.start a backed.start room;
      fits = fits-stand-first sc book (after_start sc rec.order rec.start) refl refl;
      tests = carried.tests;
      shown = carried.shown;
      listed = record-listed sc book rec a carried;
    })

-- The clock after the record's steps is that of the rule.
pub backed-clock : (sc : Scenario) (book : BookView) (rec : Record) → IsAuction sc book → IsBacked sc book rec.order rec → rec.ending ≡ Done → (after_steps sc (after_start sc rec.order rec.start) rec.steps).clock ≡ clock_rule sc book rec.order (undecided_of rec.steps)
unfolding clock_rule
backed-clock sc book rec a backed done = (record-follows sc book rec a backed done).clock

-- Each step of the record is of a station of the scenario, in one of its rounds.
backed-step : (sc : Scenario) (book : BookView) (rec : Record) (k : ℕ) (d : Step) → IsCompleted sc book rec.order rec → k < length rec.steps →
    Contains (facilities sc) (get_or rec.steps k d).station × (1 ≤ (get_or rec.steps k d).round) × ((get_or rec.steps k d).round ≤ last_round sc)
unfolding asked_tests
backed-step sc book rec k d carried h =
    let U : List ClockTest = undecided_of rec.steps in
    let asked : Contains (asked_tests sc book rec.order U) (test_of (get_or rec.steps k d)) =
    subst (λ ts. Contains ts (test_of (get_or rec.steps k d))) carried.tests (Contains-map test_of rec.steps (get_or rec.steps k d) (Contains-get_or rec.steps k d h)) in
    clock_tests-has sc rec.order (test_of (get_or rec.steps k d)) (asked_from-has sc book U (clock_tests sc rec.order) (opening_state sc) (test_of (get_or rec.steps k d)) asked)

-- The facts about the step after the first k of a record.
pub record IsNext (sc : Scenario) (rec : Record) (steps : List Step) (k : ℕ) (x : Step) : Type 0 where
  pub station : Contains (facilities sc) x.station
  pub begun : 1 ≤ x.round
  pub round : x.round ≤ last_round sc
  pub active : is_active (after_steps sc (after_start sc rec.order rec.start) (take k steps)).clock x.station ≡ true
  pub moves : after_steps sc (after_start sc rec.order rec.start) (take (k + 1) steps) ≡ settled sc (after_steps sc (after_start sc rec.order rec.start) (take k steps)) (test_of x) x.shown
  pub listed : is_listed (undecided_of rec.steps) (test_of x) ≡ is_undecided x.shown

-- They hold for each step of a backed record.
pub backed-next : (sc : Scenario) (book : BookView) (rec : Record) (steps : List Step) (k : ℕ) (x : Step) → IsAuction sc book → IsBacked sc book rec.order rec → rec.ending ≡ Done → steps ≡ rec.steps → k < length steps → x ≡ get_or steps k x → IsNext sc rec steps k x
backed-next sc book rec steps k x a backed done same h is =
    let within : k < length rec.steps = subst (λ ys. k < length ys) same h in
    let carried = carried-through sc book rec backed done in
    let step = backed-step sc book rec k x carried within in
    let next : IsNext sc rec rec.steps k (get_or rec.steps k x) = record {
      station = step.0;
      begun = step.1;
      round = step.2;
      active = asked_at sc (after_start sc rec.order rec.start) rec.steps k x (record-follows sc book rec a backed done).asked within;
      moves = after_steps_more sc (after_start sc rec.order rec.start) rec.steps k x within;
      listed = record-listed sc book rec a carried (get_or rec.steps k x) (Contains-get_or rec.steps k x within);
    } in
    subst (λ z. IsNext sc rec steps k z) (sym is) (subst (λ ys. IsNext sc rec ys k (get_or ys k x)) (sym same) next)
