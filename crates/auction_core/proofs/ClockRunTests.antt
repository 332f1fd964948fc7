-- Which tests are left, and how the program skips those that need no query. For `clock_run::skip_station` and `clock_run::advance_to_query`.
use Rattle.std.proofs.Common.{◌≡◌, ◌∙◌, ℕ, suc, ◌+◌, ◌-◌, ◌*◌, ◌<◌, ◌≤◌, Bool, true, false, not, cond, inl, inr, List, [], ◌∷◌, ◌++◌, length, map, filter, drop, get_or, Option, Some, None, MatchOption, refl, sym, ap, ap₂, subst, arith, append_assoc}
use Rattle.std.specs.Prelude.{option_map}
use Rattle.std.specs.Option.{option_map_or}
use Rattle.std.proofs.lemmas.Bool.{both_ways, cond-true}
use Rattle.std.proofs.Math.Nat.{suc-mul}
use Rattle.std.proofs.lemmas.List.{drop_more, drop_all, length-map}
use Rattle.pack_defs.specs.declared.scenario.Scenario.{Scenario}
use Rattle.pack_defs.specs.declared.station.Station.{Station}
use Rattle.pack_defs.proofs.RoundOrderLemmas.{turns-length}
use Rattle.pack_defs.specs.Book.{BookView}
use Rattle.pack_defs.specs.Lists.{is_empty}
use Rattle.pack_defs.specs.Prices.{declines, falls, last_round}
use Rattle.pack_defs.specs.ClockRule.{ClockTest, ClockState, after_answer, bidders_in_order, clock_tests, is_active, is_on_air, tests_of, round_order}
use Rattle.auction_core.specs.declared.record.Shown.{Shown}
use Rattle.auction_core.specs.Backed.{IsSettledBy, IsStepShown, shown_start}
use Rattle.auction_core.specs.ClockRun.{ClockRunView, GoesByRule, IsAtRest, IsClockRun, IsDue, IsOver, IsSettled, clock_of, core_state, left_of, next_test, test_at, tests_left, unasked_of}
use Rattle.auction_core.specs.TestHistory.{TestHistoryView}
use Rattle.auction_core.specs.Setup.{IsSetupSound, SetupView}
use Rattle.auction_core.specs.State.{CoreState, advance_to_query, settled, settled_unasked, shows_room, start_fits, test_task}
use Rattle.auction_core.specs.ClockProgress.{IsClockProgress}
use Rattle.auction_core.proofs.ClockRunLemmas.{IsAt, IsStepMore, moved-by, next-clock, next_clock_run, next-is-clock, next-state, sound-auction}
use Rattle.auction_core.proofs.KeptTestHistory.{HasNoted, next-test_history, step-within}
use Rattle.auction_core.proofs.Sets.{fits-stand-same, step_of}
use Rattle.auction_core.proofs.Walk.{off-air, walk-skip, walk-step}

-- ---- the tests that are left

-- one station fewer
pub left-here : (s : SetupView) (r i : ℕ) → i < length s.scenario.stations → tests_left s r i ≡ cond (not (declines s.scenario (get_or (round_order s.scenario s.order) i 0) 0)) (test_at s r i ∷ tests_left s r (i + 1)) (tests_left s r (i + 1))
left-here s r i h =
    let sc = s.scenario in
    let bids = λ (f : ℕ). not (declines sc f 0) in
    let test = λ (f : ℕ). (let t : ClockTest = record { round = r; station = f } in t) in
    let rest = tests_of (bidders_in_order sc s.order) (r + 1) (last_round sc - r) in
    let inside : i < length (round_order sc s.order) = rw (turns-length sc s.order, length-map sc.stations (λ (x : Station). x.id)) h in
    ap (λ z. map test (filter bids z) ++ rest) (drop_more (round_order sc s.order) i 0 inside)
    ∙ split (bids (get_or (round_order sc s.order) i 0)) (get_or (round_order sc s.order) i 0) (filter bids (drop (i + 1) (round_order sc s.order))) r rest
  where
    split : (b : Bool) (f : ℕ) (xs : List ℕ) (r : ℕ) (rest : List ClockTest) → map (λ f. record { round = r; station = f }) (cond b (f ∷ xs) xs) ++ rest ≡ cond b (record { round = r; station = f } ∷ map (λ f. record { round = r; station = f }) xs ++ rest) (map (λ f. record { round = r; station = f }) xs ++ rest)
    split true f xs r rest = refl
    split false f xs r rest = refl

-- no turn is left at the end of a round
none-left : (s : SetupView) → drop (length s.scenario.stations) (round_order s.scenario s.order) ≡ []
none-left s = drop_all (length s.scenario.stations) (round_order s.scenario s.order) (omega (arith, turns-length s.scenario s.order, length-map s.scenario.stations (λ (x : Station). x.id)))

-- the end of a round is the beginning of the next
left-round : (s : SetupView) (r k : ℕ) → last_round s.scenario - r ≡ suc k → tests_left s r (length s.scenario.stations) ≡ tests_left s (r + 1) 0
left-round s r k e =
    let sc = s.scenario in
    let rest : last_round sc - (r + 1) ≡ k = omega arith in
    ap (λ z. map (λ f. (let t : ClockTest = record { round = r; station = f } in t)) (filter (λ f. not (declines sc f 0)) z) ++ tests_of (bidders_in_order sc s.order) (r + 1) (last_round sc - r)) (none-left s)
    ∙ (ap (tests_of (bidders_in_order sc s.order) (r + 1)) e
    ∙ ap (λ n. map (λ f. (let t : ClockTest = record { round = r + 1; station = f } in t)) (bidders_in_order sc s.order) ++ tests_of (bidders_in_order sc s.order) (r + 1 + 1) n) (sym rest))

-- no test is left at the end of the last round
left-over : (s : SetupView) → tests_left s (last_round s.scenario) (length s.scenario.stations) ≡ []
left-over s =
    let sc = s.scenario in
    let zero_left : last_round sc - last_round sc ≡ 0 = omega arith in
    ap (λ z. map (λ f. (let t : ClockTest = record { round = last_round sc; station = f } in t)) (filter (λ f. not (declines sc f 0)) z) ++ tests_of (bidders_in_order sc s.order) (last_round sc + 1) (last_round sc - last_round sc)) (none-left s)
    ∙ ap (tests_of (bidders_in_order sc s.order) (last_round sc + 1)) zero_left

-- all tests are left at the beginning
pub left-all : (s : SetupView) → tests_left s 1 0 ≡ clock_tests s.scenario s.order
left-all s =
    let sc = s.scenario in
    let rounds : last_round sc ≡ suc (length (falls sc)) = omega arith in
    let less : last_round sc - 1 ≡ length (falls sc) = omega arith in
    ap (λ n. map (λ f. (let t : ClockTest = record { round = 1; station = f } in t)) (bidders_in_order sc s.order) ++ tests_of (bidders_in_order sc s.order) 2 n) less
    ∙ ap (tests_of (bidders_in_order sc s.order) 1) (sym rounds)

-- once the clock runs, the tests from the next turn on are left
pub left-runs : (s : SetupView) (c : ClockRunView) → start_fits c.start ≡ true → left_of s c ≡ tests_left s c.round c.place_in_round
left-runs s c running = cond-true (start_fits c.start) _ _ running

-- if the next turn's station is active, its test is the first one left
pub due-left : (s : SetupView) (c : ClockRunView) → start_fits c.start ≡ true → IsClockRun s c → IsDue s c → left_of s c ≡ next_test s c ∷ tests_left s c.round (c.place_in_round + 1)
due-left s c running h due =
    let bids : not (declines s.scenario (next_test s c).station 0) ≡ true = ap not (h.bid (next_test s c).station due.active) in
    left-runs s c running ∙ (left-here s c.round c.place_in_round due.place_in_round ∙ cond-true _ _ _ bids)

-- once that test is settled, the tests after it are left
pub next-left : (s : SetupView) (c : ClockRunView) (shown : Shown) (i : ℕ) (test_history : TestHistoryView) → start_fits c.start ≡ true → IsClockRun s c → IsDue s c → left_of s c ≡ next_test s c ∷ left_of s (next_clock_run s c shown i test_history)
next-left s c shown i test_history running h due = due-left s c running h due ∙ ap (λ z. next_test s c ∷ z) (sym (left-runs s (next_clock_run s c shown i test_history) running))

-- no test is left if the clock is over
pub over-left : (s : SetupView) (c : ClockRunView) → start_fits c.start ≡ true → IsOver s c → left_of s c ≡ []
over-left s c running over = left-runs s c running ∙ (ap₂ (tests_left s) over.1 over.0 ∙ left-over s)

-- whether no test is left
pub over-empty : (s : SetupView) (c : ClockRunView) → start_fits c.start ≡ true → IsOver s c → is_empty (left_of s c) ≡ true
over-empty s c running over = ap is_empty (over-left s c running over)

pub due-some : (s : SetupView) (c : ClockRunView) → start_fits c.start ≡ true → IsClockRun s c → IsDue s c → is_empty (left_of s c) ≡ false
due-some s c running h due = ap is_empty (due-left s c running h due)

-- ---- the clock run obeys the rule

-- the invariant does not depend on the tests left or the current query
pub walked-same : (s : SetupView) (start : Shown) (a b : CoreState) (before : List ClockTest) → a.order ≡ b.order → a.clock ≡ b.clock → a.map ≡ b.map → a.steps ≡ b.steps → IsClockProgress s.scenario s.book start a before → IsClockProgress s.scenario s.book start b before
walked-same s start a b before o c m x w =
    let at : CoreState = record b { order = a.order; clock = a.clock; map = a.map; steps = a.steps } in
    let first : IsClockProgress s.scenario s.book start at before = record { clock = w.clock; tests = w.tests; shown = w.shown; same_clock = w.same_clock; same_map = w.same_map; clean = w.clean; stations = w.stations; fits = fits-stand-same s.scenario s.book a at refl refl refl w.fits } in
    let same : at ≡ b = λ i. record b { order = o i; clock = c i; map = m i; steps = x i } in
    subst (λ z. IsClockProgress s.scenario s.book start z before) same first

-- the station of the next test is not on air yet
pub due-off : (s : SetupView) (c : ClockRunView) → start_fits c.start ≡ true → IsSetupSound s → IsClockRun s c → IsDue s c → is_on_air (clock_of s c) (next_test s c).station ≡ false
due-off s c running l h due =
    let g = h.rule running in
    (off-air s.scenario s.book _ g.before (clock_of s c) (sound-auction s l) g.progress.clock (next_test s c).station due.active).1

-- the step of the next test is properly settled
abbrev pub IsNextShown : SetupView → ClockRunView → Shown → Type 0
IsNextShown s c shown = IsStepShown s.scenario s.book (core_state s c 0) (step_of (next_test s c) shown)

next-rule : (s : SetupView) (c : ClockRunView) (shown : Shown) (i : ℕ) (test_history : TestHistoryView) → IsSetupSound s → start_fits c.start ≡ true → IsClockRun s c → IsDue s c → IsAt s c i → IsStepMore s c shown test_history → IsNextShown s c shown → GoesByRule s (next_clock_run s c shown i test_history)
next-rule s c shown i test_history l running h due at more is =
    let g = h.rule running in
    let t = next_test s c in
    let new = next_clock_run s c shown i test_history in
    let left = next-left s c shown i test_history running h due in
    let all : clock_tests s.scenario s.order ≡ g.before ++ t ∷ left_of s new = sym g.all_tests ∙ ap (λ z. g.before ++ z) left in
    let moved = walk-step s.scenario s.book (shown_start c.start) (core_state s c 0) g.before (left_of s new) t shown (sound-auction s l) g.progress all due.active is in
    let state = next-state s c shown i test_history 0 l h due at more in
    record {
      before = g.before ++ t ∷ [];
      all_tests = append_assoc g.before (t ∷ []) (left_of s new) ∙ sym all;
      progress = walked-same s (shown_start c.start) (settled s.scenario (core_state s c 0) t shown) (core_state s new 0) (g.before ++ t ∷ []) refl (sym (ap (λ (z : CoreState). z.clock) state)) (sym (ap (λ (z : CoreState). z.map) state)) (sym (ap (λ (z : CoreState). z.steps) state)) moved;
    }

pub next-holds : (s : SetupView) (c : ClockRunView) (shown : Shown) (i : ℕ) (test_history : TestHistoryView) → IsSetupSound s → start_fits c.start ≡ true → IsClockRun s c → IsDue s c → IsAt s c i → HasNoted s c shown i test_history → IsNextShown s c shown → IsClockRun s (next_clock_run s c shown i test_history)
next-holds s c shown i test_history l running h due at j is =
    let sc = s.scenario in
    let t = next_test s c in
    let fits = shows_room shown in
    let new = next_clock_run s c shown i test_history in
    let moved = moved-by sc (clock_of s c) t fits due.active in
    let same : after_answer sc (clock_of s c) t fits ≡ clock_of s new = sym (next-clock s c shown i test_history j.steps) in
    let each = h.each in
    let inside = due.place_in_round in
    record {
      sound = l;
      clock = next-is-clock s c shown i test_history l h due at j.steps;
      stations = h.stations;
      begun = h.begun;
      round = h.round;
      place_in_round = omega (arith, inside);
      bid = λ f k. h.bid f (moved.kept f (subst (λ (z : ClockState). is_active z f ≡ true) (sym same) k));
      idle = λ idle. absurd (both_ways (start_fits c.start) idle running);
      each = subst (λ (z : ClockState). length z.frozen + length z.active + length z.on_air ≤ length sc.stations) same (omega (arith, each, moved.each));
      test_history = next-test_history s c shown i test_history l h.test_history at j (due-off s c running l h due) (step-within sc s.book (core_state s c 0) t shown is h.test_history.fits);
      rule = λ _. next-rule s c shown i test_history l running h due at j.steps is;
    }

-- a clock run that equals `old` with its next test settled satisfies `IsSettled`
pub is-settled : (s : SetupView) (old new : ClockRunView) (shown : Shown) (i : ℕ) (test_history : TestHistoryView) → IsSetupSound s → start_fits old.start ≡ true → IsClockRun s old → IsDue s old → IsAt s old i → HasNoted s old shown i test_history → IsNextShown s old shown → new ≡ next_clock_run s old shown i test_history → IsSettled s shown old new
is-settled s old new shown i test_history l running h due at j is same = subst (IsSettled s shown old) (sym same) (record {
  holds = next-holds s old shown i test_history l running h due at j is;
  state = λ n. next-state s old shown i test_history n l h due at j.steps;
  left = next-left s old shown i test_history running h due;
})

-- ---- going on

-- `advance_to_query` reads the tests that it is given, not those of the state
pub go_on-left : (sc : Scenario) (book : BookView) (ts l : List ClockTest) (state : CoreState) → advance_to_query sc book ts (record state { left = l }) ≡ advance_to_query sc book ts state
go_on-left sc book [] l state = refl
go_on-left sc book (t ∷ ts) l state =
    let inner : (o : Option Shown) → option_map_or (advance_to_query sc book ts) (option_map (settled sc (record state { left = l }) t) o) (record state { left = t ∷ ts }) ≡ option_map_or (advance_to_query sc book ts) (option_map (settled sc state t) o) (record state { left = t ∷ ts }) = λ o. elim o as (λ o. option_map_or (advance_to_query sc book ts) (option_map (settled sc (record state { left = l }) t) o) (record state { left = t ∷ ts }) ≡ option_map_or (advance_to_query sc book ts) (option_map (settled sc state t) o) (record state { left = t ∷ ts })) [
      | None ↦ refl
      | Some shown ↦ go_on-left sc book ts l (settled sc state t shown)
    ] in
    elim (is_active state.clock t.station) as (λ b. option_map_or (advance_to_query sc book ts) (cond b (option_map (settled sc (record state { left = l }) t) (settled_unasked sc book state t)) (Some (record state { left = l }))) (record state { left = t ∷ ts }) ≡ option_map_or (advance_to_query sc book ts) (cond b (option_map (settled sc state t) (settled_unasked sc book state t)) (Some state)) (record state { left = t ∷ ts })) [
      | true ↦ inner (settled_unasked sc book state t)
      | false ↦ go_on-left sc book ts l state
    ]

-- a test of a station that is not active is skipped
go_on-idle : (sc : Scenario) (book : BookView) (t : ClockTest) (ts : List ClockTest) (state : CoreState) → is_active state.clock t.station ≡ false → advance_to_query sc book (t ∷ ts) state ≡ advance_to_query sc book ts state
go_on-idle sc book t ts state idle =
    ap (λ b. option_map_or (advance_to_query sc book ts) (cond b (option_map (settled sc state t) (settled_unasked sc book state t)) (Some state)) (record state { left = t ∷ ts })) idle

-- a test that is settled without a query is passed
go_on-unasked : (sc : Scenario) (book : BookView) (t : ClockTest) (ts : List ClockTest) (state : CoreState) (u : Shown) → is_active state.clock t.station ≡ true → settled_unasked sc book state t ≡ Some u → advance_to_query sc book (t ∷ ts) state ≡ advance_to_query sc book ts (settled sc state t u)
go_on-unasked sc book t ts state u active is =
    ap (λ b. option_map_or (advance_to_query sc book ts) (cond b (option_map (settled sc state t) (settled_unasked sc book state t)) (Some state)) (record state { left = t ∷ ts })) active
    ∙ ap (λ o. option_map_or (advance_to_query sc book ts) (option_map (settled sc state t) o) (record state { left = t ∷ ts })) is

-- a test that needs a query stops `advance_to_query`
go_on-query : (sc : Scenario) (book : BookView) (t : ClockTest) (ts : List ClockTest) (state : CoreState) → is_active state.clock t.station ≡ true → settled_unasked sc book state t ≡ None → advance_to_query sc book (t ∷ ts) state ≡ record state { left = t ∷ ts }
go_on-query sc book t ts state active none =
    ap (λ b. option_map_or (advance_to_query sc book ts) (cond b (option_map (settled sc state t) (settled_unasked sc book state t)) (Some state)) (record state { left = t ∷ ts })) active
    ∙ ap (λ o. option_map_or (advance_to_query sc book ts) (option_map (settled sc state t) o) (record state { left = t ∷ ts })) none

-- going on from `old` and from `new` leads to the same state
abbrev pub Leads : SetupView → ClockRunView → ClockRunView → Type 0
Leads s old new = (n : ℕ) → advance_to_query s.scenario s.book (left_of s new) (core_state s new n) ≡ advance_to_query s.scenario s.book (left_of s old) (core_state s old n)

-- the next turn, skipped
abbrev pub passed : ClockRunView → ClockRunView
passed c = record c { place_in_round = c.place_in_round + 1 }

-- the next round
abbrev pub round_on : ClockRunView → ClockRunView
round_on c = record c { round = c.round + 1; place_in_round = 0 }

-- what is left after a skipped turn
passed-left : (s : SetupView) (c : ClockRunView) → start_fits c.start ≡ true → c.place_in_round < length s.scenario.stations →
    left_of s c ≡ cond (not (declines s.scenario (next_test s c).station 0)) (next_test s c ∷ left_of s (passed c)) (left_of s (passed c))
passed-left s c running inside =
    left-runs s c running ∙ (left-here s c.round c.place_in_round inside
    ∙ ap (λ z. cond (not (declines s.scenario (next_test s c).station 0)) (next_test s c ∷ z) z) (sym (left-runs s (passed c) running)))

-- skipping the turn of a station that is not active leads to the same state
pub leads-idle : (s : SetupView) (c : ClockRunView) → start_fits c.start ≡ true → c.place_in_round < length s.scenario.stations → is_active (clock_of s c) (next_test s c).station ≡ false → Leads s c (passed c)
leads-idle s c running inside off n =
    let t = next_test s c in
    let rest : List ClockTest = left_of s (passed c) in
    let test_history : advance_to_query s.scenario s.book (cond (not (declines s.scenario t.station 0)) (t ∷ rest) rest) (core_state s c n) ≡ advance_to_query s.scenario s.book rest (core_state s c n) = elim (not (declines s.scenario t.station 0)) as (λ b. advance_to_query s.scenario s.book (cond b (t ∷ rest) rest) (core_state s c n) ≡ advance_to_query s.scenario s.book rest (core_state s c n)) [
      | true ↦ go_on-idle s.scenario s.book t rest (core_state s c n) off
      | false ↦ refl
    ] in
    go_on-left s.scenario s.book rest rest (core_state s c n)
    ∙ (sym test_history ∙ ap (λ l. advance_to_query s.scenario s.book l (core_state s c n)) (sym (passed-left s c running inside)))

-- the same clock run with another next turn
moved-on : (s : SetupView) (c : ClockRunView) (round place_in_round : ℕ) → start_fits c.start ≡ true → 1 ≤ round → round ≤ last_round s.scenario → place_in_round ≤ length s.scenario.stations → IsClockRun s c → GoesByRule s (record c { round = round; place_in_round = place_in_round }) → IsClockRun s (record c { round = round; place_in_round = place_in_round })
moved-on s c round place_in_round running first last within h g = record {
  sound = h.sound;
  clock = h.clock;
  stations = h.stations;
  begun = first;
  round = last;
  place_in_round = within;
  bid = h.bid;
  idle = λ idle. absurd (both_ways (start_fits c.start) idle running);
  each = h.each;
  test_history = record { component_labels = h.test_history.component_labels; on_air = h.test_history.on_air; long = h.test_history.long; seen = h.test_history.seen; fits = h.test_history.fits };
  rule = λ _. g;
}

pub passed-holds : (s : SetupView) (c : ClockRunView) → start_fits c.start ≡ true → c.place_in_round < length s.scenario.stations → is_active (clock_of s c) (next_test s c).station ≡ false → IsClockRun s c → IsClockRun s (passed c)
passed-holds s c running inside off h =
    let t = next_test s c in
    let rest : List ClockTest = left_of s (passed c) in
    let g = h.rule running in
    let left = passed-left s c running inside in
    let go : (b : Bool) → left_of s c ≡ cond b (t ∷ rest) rest → GoesByRule s (passed c) = λ b. elim b as (λ b. left_of s c ≡ cond b (t ∷ rest) rest → GoesByRule s (passed c)) [
      | true ↦ λ e. record {
        before = g.before ++ t ∷ [];
        all_tests = append_assoc g.before (t ∷ []) rest ∙ (ap (λ z. g.before ++ z) (sym e) ∙ g.all_tests);
        progress = walked-same s (shown_start c.start) (core_state s c 0) (core_state s (passed c) 0) (g.before ++ t ∷ []) refl refl refl refl (walk-skip s.scenario s.book (shown_start c.start) (core_state s c 0) g.before t g.progress off);
      }
      | false ↦ λ e. record {
        before = g.before;
        all_tests = ap (λ z. g.before ++ z) (sym e) ∙ g.all_tests;
        progress = walked-same s (shown_start c.start) (core_state s c 0) (core_state s (passed c) 0) g.before refl refl refl refl g.progress;
      }
    ] in
    moved-on s c c.round (c.place_in_round + 1) running h.begun h.round (omega (arith, inside)) h (go (not (declines s.scenario t.station 0)) left)

-- the end of a round leaves the same tests as the beginning of the next
round-left : (s : SetupView) (c : ClockRunView) → c.place_in_round ≡ length s.scenario.stations → c.round < last_round s.scenario → left_of s (round_on c) ≡ left_of s c
round-left s c end less =
    let more : last_round s.scenario - c.round ≡ suc (last_round s.scenario - c.round - 1) = omega arith in
    ap (λ l. cond (start_fits c.start) l []) (sym (ap (tests_left s c.round) end ∙ left-round s c.round (last_round s.scenario - c.round - 1) more))

pub leads-round : (s : SetupView) (c : ClockRunView) → c.place_in_round ≡ length s.scenario.stations → c.round < last_round s.scenario → Leads s c (round_on c)
leads-round s c end less n =
    go_on-left s.scenario s.book (left_of s (round_on c)) (left_of s (round_on c)) (core_state s c n) ∙ ap (λ l. advance_to_query s.scenario s.book l (core_state s c n)) (round-left s c end less)

pub round-holds : (s : SetupView) (c : ClockRunView) → start_fits c.start ≡ true → c.place_in_round ≡ length s.scenario.stations → c.round < last_round s.scenario → IsClockRun s c → IsClockRun s (round_on c)
round-holds s c running end less h =
    let g = h.rule running in
    moved-on s c (c.round + 1) 0 running (omega arith) (omega (arith, less)) (omega arith) h (record {
      before = g.before;
      all_tests = ap (λ z. g.before ++ z) (round-left s c end less) ∙ g.all_tests;
      progress = walked-same s (shown_start c.start) (core_state s c 0) (core_state s (round_on c) 0) g.before refl refl refl refl g.progress;
    })

-- a test that is settled without a query leads to the same state
pub leads-unasked : (s : SetupView) (old new : ClockRunView) (u : Shown) → IsDue s old → unasked_of s old ≡ Some u → IsSettled s u old new → Leads s old new
leads-unasked s old new u due is settled n =
    let t = next_test s old in
    ap (advance_to_query s.scenario s.book (left_of s new)) (settled.state n)
    ∙ (go_on-left s.scenario s.book (left_of s new) (left_of s new) _
    ∙ (sym (go_on-unasked s.scenario s.book t (left_of s new) (core_state s old n) u due.active is)
    ∙ ap (λ l. advance_to_query s.scenario s.book l (core_state s old n)) (sym settled.left)))

-- at rest nothing is skipped
pub at-rest : (s : SetupView) (c : ClockRunView) (n : ℕ) → start_fits c.start ≡ true → IsClockRun s c → IsAtRest s c → advance_to_query s.scenario s.book (left_of s c) (core_state s c n) ≡ core_state s c n
at-rest s c n running h (inl over) =
    let none = over-left s c running over in
    let made_of : List ClockTest → CoreState = λ l. record (core_state s c n) { left = l } in
    ap (λ l. advance_to_query s.scenario s.book l (core_state s c n)) none ∙ ap made_of (sym none)
at-rest s c n running h (inr query) =
    let first = due-left s c running h query.0 in
    let made_of : List ClockTest → CoreState = λ l. record (core_state s c n) { left = l } in
    ap (λ l. advance_to_query s.scenario s.book l (core_state s c n)) first
    ∙ (go_on-query s.scenario s.book (next_test s c) (tests_left s c.round (c.place_in_round + 1)) (core_state s c n) query.0.active query.1
    ∙ ap made_of (sym first))

-- what settles the next test without a query settles its step properly
pub unasked-shown : (s : SetupView) (c : ClockRunView) (u : Shown) → unasked_of s c ≡ Some u → IsNextShown s c u
unasked-shown s c u e = subst (λ o. MatchOption o (IsSettledBy s.scenario s.book (test_task s.scenario s.book (core_state s c 0) (next_test s c)) u) (λ unasked. u ≡ unasked)) (sym e) refl

-- ---- how many turns are left

-- the end of a round, by whether there is a next one
pub by-round : (s : SetupView) (c new : ClockRunView) (b : Bool) (P : ClockRunView → Type 0) → (c.round < last_round s.scenario → P (round_on c)) → (c.round ≡ last_round s.scenario → P c) →
    (b ≡ true → (c.round < last_round s.scenario) × (new ≡ round_on c)) → (b ≡ false → (c.round ≡ last_round s.scenario) × (new ≡ c)) → P new
by-round s c new true P on off next over = subst P (sym (next refl).1) (on (next refl).0)
by-round s c new false P on off next over = subst P (sym (over refl).1) (off (over refl).0)

-- one turn fewer
pub passed-nearer : (m stations place_in_round : ℕ) → place_in_round < stations → m + (stations - (place_in_round + 1)) < m + (stations - place_in_round)
passed-nearer m stations place_in_round inside = omega (arith, inside)

-- one round fewer
pub round-nearer : (last round stations place_in_round : ℕ) → round < last → (last - (round + 1)) * (stations + 1) + (stations - 0) < (last - round) * (stations + 1) + (stations - place_in_round)
round-nearer last round stations place_in_round less =
    let more : last - round ≡ suc (last - (round + 1)) = omega (arith, less) in
    let one : (last - round) * (stations + 1) ≡ (last - (round + 1)) * (stations + 1) + (stations + 1) = ap (λ n. n * (stations + 1)) more ∙ suc-mul (last - (round + 1)) (stations + 1) in
    omega (arith, one)

-- a turn that is not the end of the round is within the round
pub turn-inside : (place_in_round stations : ℕ) → place_in_round ≤ stations → (place_in_round ≡ stations → ⊥) → place_in_round < stations
turn-inside place_in_round stations le other = omega (arith, le, other)
