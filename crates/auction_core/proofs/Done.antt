-- The map of a backed record that was carried through is clean, with exactly the stations on air. For `laws`.
use Rattle.std.proofs.Common.{◌≡◌, Bool, true, false, not, ◌==◌, ◌&&◌, ◌||◌, if◌then◌else◌, List, [], ◌∷◌, ◌++◌, map, Some, None, Contains, refl, sym, ap, ◌∙◌, subst, ⊎_elim, inl, inr, eq-eqb}
use Rattle.std.specs.List.{cons_option}
use Rattle.std.proofs.lemmas.List.Folds.{list_any-append}
use Rattle.std.proofs.lemmas.Bool.{and_from, and_right, or_left, both_ways, cond-true, false_from_ne_true, cases_Bool}
use Rattle.pack_defs.specs.Book.{BookView}
use Rattle.pack_defs.specs.Packing.{fits}
use Rattle.pack_defs.specs.declared.order.Order.{Order}
use Rattle.pack_defs.specs.declared.scenario.Scenario.{Scenario}
use Rattle.pack_defs.specs.ClockRule.{ClockState, ClockTest, clock_tests, opening_state, is_active, is_listed, asked_set, has_room, after_answer, after_test, after_tests, asked_from, clock_rule, asked_tests}
use Rattle.pack_defs.proofs.Members.{Contains-here, Contains-there, Contains-nil, Contains-cons_cases, Contains-map, list_any-from}
use Rattle.pack_defs.proofs.ClockSteps.{test_idle}
use Rattle.pack_defs.proofs.TestOrder.{in_turn, TestsApart, clock_apart}
use Rattle.auction_core.specs.declared.record.Shown.{Shown}
use Rattle.auction_core.specs.declared.record.Record.{Record}
use Rattle.auction_core.specs.declared.record.Shown.TheVariants.{Empty, Fits, Same, NoChannel, Refuted, Outside, Undecided}
use Rattle.auction_core.specs.declared.record.Step.{Step}
use Rattle.auction_core.specs.declared.record.Ending.TheVariants.{Done}
use Rattle.auction_core.specs.State.{CoreState, test_of, shows_room, settled}
use Rattle.auction_core.specs.Backed.{is_undecided, undecided_of, IsStartShown, IsStepShown, after_steps, AreShown, after_start, ending_of, IsCompleted, IsEnded, IsBacked}
use Rattle.auction_core.specs.Rule.{IsAuction}
use Rattle.auction_core.specs.ClockProgress.{FitsStayClean}
use Rattle.auction_core.proofs.Steps.{after_steps-steps, same_test, same-back, listed-undecided, listed-asked}
use Rattle.auction_core.proofs.Room.{IsReady, IsOf, room, new-map}
use Rattle.auction_core.proofs.Walk.{no-room, ready, off-air}
use Rattle.auction_core.proofs.Kept.{IsUnderWay}
use Rattle.auction_core.proofs.Sets.{fits-stand-first, fits-stand-same, fits-stand-step}
use Rattle.auction_core.proofs.Starts.{start-map}

-- ---- which tests of the steps are undecided

pub asked-apart : (sc : Scenario) (book : BookView) (U ts : List ClockTest) (st : ClockState) → TestsApart ts → TestsApart (asked_from sc book U ts st)
asked-apart sc book U [] st apart = tt
asked-apart sc book U (t ∷ ts) st apart =
    let next : ClockState = after_test sc book U st t in
    let go : (b : Bool) → TestsApart (if b then t ∷ asked_from sc book U ts next else asked_from sc book U ts st) = λ b. elim b as (λ b. TestsApart (if b then t ∷ asked_from sc book U ts next else asked_from sc book U ts st)) [
      | true ↦ (false_from_ne_true (is_listed (asked_from sc book U ts next) t) (λ yes. both_ways (is_listed ts t) apart.0 (listed-asked sc book U ts next t yes)), asked-apart sc book U ts next apart.1)
      | false ↦ asked-apart sc book U ts st apart.1
    ] in
    go (is_active st t.station)

listed-option : (b : Bool) (u t : ClockTest) (us : List ClockTest) → is_listed (cons_option (if b then Some u else None) us) t ≡ ((b && same_test u t) || is_listed us t)
listed-option true u t us = refl
listed-option false u t us = refl

only-first : (b c d : Bool) → c ≡ true → d ≡ false → ((b && c) || d) ≡ b
only-first true true false e f = refl
only-first true true true e f = cc
only-first true false d e f = cc
only-first false c false e f = refl
only-first false c true e f = cc

only-rest : (b c d : Bool) → c ≡ false → ((b && c) || d) ≡ d
only-rest true true d e = cc
only-rest true false d e = refl
only-rest false c d e = refl

-- a step's test is listed if and only if the step is undecided
abbrev pub AreListed : List ClockTest → List Step → Type 0
AreListed U xs = (x : Step) → Contains xs x → is_listed U (test_of x) ≡ is_undecided x.shown

-- if no test occurs twice, a step's test is listed as undecided if and only if the step is
pub listed-shown : (xs : List Step) → TestsApart (map test_of xs) → AreListed (undecided_of xs) xs
listed-shown [] apart x c = absurd (Contains-nil x c)
listed-shown (y ∷ ys) apart x c =
    let option = λ (t : ClockTest). listed-option (is_undecided y.shown) (test_of y) t (undecided_of ys) in
    let first : is_listed (undecided_of (y ∷ ys)) (test_of y) ≡ is_undecided y.shown =
    option (test_of y) ∙
    only-first (is_undecided y.shown) (same_test (test_of y) (test_of y)) (is_listed (undecided_of ys) (test_of y))
    (and_from (y.round == y.round) (y.station == y.station) (eq-eqb y.round y.round refl) (eq-eqb y.station y.station refl))
    (false_from_ne_true (is_listed (undecided_of ys) (test_of y)) (λ yes. both_ways (is_listed (map test_of ys) (test_of y)) apart.0 (listed-undecided ys (test_of y) yes))) in
    elim (Contains-cons_cases y x ys c) [
      | inl e ↦ subst (λ z. is_listed (undecided_of (y ∷ ys)) (test_of z) ≡ is_undecided z.shown) e first
      | inr l ↦
          option (test_of x) ∙
          (only-rest (is_undecided y.shown) (same_test (test_of y) (test_of x)) (is_listed (undecided_of ys) (test_of x))
          (false_from_ne_true (same_test (test_of y) (test_of x)) (λ same.
          both_ways (is_listed (map test_of ys) (test_of y)) apart.0
          (list_any-from (λ u. same_test u (test_of y)) (map test_of ys) (test_of x) (Contains-map test_of ys x l) (same-back (test_of y) (test_of x) same)))) ∙
          listed-shown ys apart.1 x l)
    ]

-- ---- the walk over the steps

and_true : (b : Bool) → (b && true) ≡ b
and_true true = refl
and_true false = refl

-- a properly settled step moves the clock as the rule does
pub step-moves : (sc : Scenario) (book : BookView) (U : List ClockTest) (state : CoreState) (x : Step) → IsReady sc book state x.station → FitsStayClean sc book state → is_active state.clock x.station ≡ true → IsStepShown sc book state x → is_listed U (test_of x) ≡ is_undecided x.shown →
    (settled sc state (test_of x) x.shown).clock ≡ after_test sc book U state.clock (test_of x)
step-moves sc book U state x r f active h l =
    let t : ClockTest = test_of x in
    let fit : Bool = fits book (asked_set sc state.clock t.station) in
    let answer : has_room sc book U state.clock t ≡ shows_room x.shown = ⊎_elim
    (λ yes. and_right fit (not (is_listed U t)) (ap not (l ∙ yes)) ∙ sym (no-room x.shown yes))
    (λ no. ap (λ b. fit && not b) (l ∙ no) ∙ (and_true fit ∙ room sc book state t x.shown r f active h no))
    (cases_Bool (is_undecided x.shown)) in
    sym (cond-true (is_active state.clock t.station) (after_answer sc state.clock t (has_room sc book U state.clock t)) state.clock active ∙ ap (after_answer sc state.clock t) answer)

-- these steps lead to a clean map of the stations on air, in this state of the clock, and earlier fits still work
pub record Arrives (sc : Scenario) (book : BookView) (clock : ClockState) (state : CoreState) : Type 0 where
  pub of : IsOf sc book clock state.map
  pub fits : FitsStayClean sc book state

-- if the steps left are the tests left that the rule asks, they lead to a clean map of the stations on air
walk : (sc : Scenario) (book : BookView) (U ts done : List ClockTest) (state : CoreState) (xs : List Step) → IsAuction sc book → state.clock ≡ after_tests sc book U done (opening_state sc) → IsOf sc book state.clock state.map → FitsStayClean sc book state →
    map test_of xs ≡ asked_from sc book U ts state.clock → AreShown sc book state xs → AreListed U xs →
    Arrives sc book (after_tests sc book U ts state.clock) (after_steps sc state xs)
walk sc book U [] done state [] a e of fits tests shown listed = record { of = of; fits = fits }
walk sc book U [] done state (x ∷ xs) a e of fits tests shown listed = cc
walk sc book U (t ∷ ts) done state xs a e of fits tests shown listed =
    let next : ClockTest → ClockState = λ u. after_test sc book U state.clock u in
    let place_in_round : (u : ClockTest) → next u ≡ after_tests sc book U (done ++ u ∷ []) (opening_state sc) = λ u.
    ap (λ c. after_test sc book U c u) e ∙ sym (in_turn sc book U done (u ∷ []) (opening_state sc)) in
    let first : (x : Step) (ys : List Step) → is_active state.clock x.station ≡ true → map test_of ys ≡ asked_from sc book U ts (next (test_of x)) → IsStepShown sc book state x → AreShown sc book (settled sc state (test_of x) x.shown) ys → AreListed U (x ∷ ys) → Arrives sc book (after_tests sc book U ts (next (test_of x))) (after_steps sc (settled sc state (test_of x) x.shown) ys) = λ x ys active m h s l.
    let r = ready sc book U done state x.station a e of active in
    let moved : (settled sc state (test_of x) x.shown).clock ≡ next (test_of x) = step-moves sc book U state x r fits active h (l x (Contains-here x ys)) in
    let stand = fits-stand-step sc book state (test_of x) x.shown a (off-air sc book U done state.clock a e) active fits h in
    subst (λ c. Arrives sc book (after_tests sc book U ts c) (after_steps sc (settled sc state (test_of x) x.shown) ys)) moved
    (walk sc book U ts (done ++ test_of x ∷ []) (settled sc state (test_of x) x.shown) ys a (moved ∙ place_in_round (test_of x)) (new-map sc book state (test_of x) x.shown r fits active h) stand
    (m ∙ ap (asked_from sc book U ts) (sym moved)) s (λ y c. l y (Contains-there x y ys c))) in
    let asked : (ys : List Step) → is_active state.clock t.station ≡ true → map test_of ys ≡ t ∷ asked_from sc book U ts (next t) → AreShown sc book state ys → AreListed U ys → Arrives sc book (after_tests sc book U ts (next t)) (after_steps sc state ys) = λ ys active. elim ys as (λ ys. map test_of ys ≡ t ∷ asked_from sc book U ts (next t) → AreShown sc book state ys → AreListed U ys → Arrives sc book (after_tests sc book U ts (next t)) (after_steps sc state ys)) [
      | [] ↦ λ m s l. cc
      | x ∷ ys ↦ λ m s l.
          let same : test_of x ≡ t = cc in
          let rest : map test_of ys ≡ asked_from sc book U ts (next t) = cc in
          (subst (λ u. is_active state.clock u.station ≡ true → map test_of ys ≡ asked_from sc book U ts (next u) → Arrives sc book (after_tests sc book U ts (next u)) (after_steps sc state (x ∷ ys))) same
          (λ active m. first x ys active m s.0 s.1 l)) active rest
    ] in
    let go : (b : Bool) → is_active state.clock t.station ≡ b → map test_of xs ≡ (if b then t ∷ asked_from sc book U ts (next t) else asked_from sc book U ts state.clock) → Arrives sc book (after_tests sc book U ts (next t)) (after_steps sc state xs) = λ b. elim b as (λ b. is_active state.clock t.station ≡ b → map test_of xs ≡ (if b then t ∷ asked_from sc book U ts (next t) else asked_from sc book U ts state.clock) → Arrives sc book (after_tests sc book U ts (next t)) (after_steps sc state xs)) [
      | true ↦ λ active m. asked xs active m shown listed
      | false ↦ λ idle m.
          let same : next t ≡ state.clock = test_idle book U sc state.clock t idle in
          subst (λ c. Arrives sc book (after_tests sc book U ts c) (after_steps sc state xs)) (sym same)
          (walk sc book U ts (done ++ t ∷ []) state xs a (sym same ∙ place_in_round t) of fits m shown listed)
    ] in
    go (is_active state.clock t.station) refl tests

-- ---- an auction under way

pub apart-first : (first later : List ClockTest) → TestsApart (first ++ later) → TestsApart first
apart-first [] later apart = tt
apart-first (t ∷ first) later apart =
    (false_from_ne_true (is_listed first t) (λ yes. both_ways (is_listed (first ++ later) t) apart.0 (list_any-append (λ u. same_test u t) first later ∙ or_left (is_listed first t) (is_listed later t) yes)), apart-first first later apart.1)

-- earlier fits still work, given the steps
pub under-way-fits : (sc : Scenario) (book : BookView) (start : Shown) (state : CoreState) → IsAuction sc book → IsStartShown sc book start → shows_room start ≡ true → IsUnderWay sc book start state → FitsStayClean sc book state
under-way-fits sc book start state a k r u =
    let U : List ClockTest = undecided_of state.steps in
    let first : CoreState = after_start sc state.order start in
    let apart : TestsApart u.before = apart-first u.before state.left (subst TestsApart (sym u.all_tests) (clock_apart sc state.order a.stations)) in
    let listed : AreListed U state.steps = listed-shown state.steps (subst TestsApart (sym u.tests) (asked-apart sc book U u.before (opening_state sc) apart)) in
    let there = walk sc book U u.before [] first state.steps a refl (start-map sc book start a k r) (fits-stand-first sc book first refl refl) u.tests u.shown listed in
    fits-stand-same sc book (after_steps sc first state.steps) state u.same_clock u.same_map (after_steps-steps sc first state.steps) there.fits

-- ---- the record

pub done-room : (shown : Shown) → ending_of shown ≡ Done → shows_room shown ≡ true
done-room Empty e = refl
done-room (Fits delta) e = refl
done-room Same e = refl
done-room (NoChannel s) e = cc
done-room (Refuted w how) e = cc
done-room (Outside proof) e = cc
done-room (Undecided receipts) e = cc

-- the map of a record that is backed and `Done`
pub done-map : (sc : Scenario) (book : BookView) (order : Order) (rec : Record) → IsAuction sc book → IsBacked sc book order rec → rec.ending ≡ Done → IsOf sc book (clock_rule sc book order (undecided_of rec.steps)) rec.map
unfolding clock_rule asked_tests
done-map sc book order rec a b done =
    let carried : IsCompleted sc book order rec = subst (IsEnded sc book order rec) done b.rest in
    let U : List ClockTest = undecided_of rec.steps in
    let room : shows_room rec.start ≡ true = done-room rec.start (sym b.ending ∙ done) in
    let first : CoreState = after_start sc order rec.start in
    let apart : TestsApart (map test_of rec.steps) = subst TestsApart (sym carried.tests) (asked-apart sc book U (clock_tests sc order) (opening_state sc) (clock_apart sc order a.stations)) in
    subst (IsOf sc book (after_tests sc book U (clock_tests sc order) (opening_state sc))) (sym carried.map)
    (walk sc book U (clock_tests sc order) [] first rec.steps a refl (start-map sc book rec.start a b.start room) (fits-stand-first sc book first refl refl) carried.tests carried.shown (listed-shown rec.steps apart)).of
