-- A query session as the program keeps it: its number, its room and its next query. For `query_session`.
use Rattle.std.proofs.Common.{◌≡◌, ◌∙◌, ℕ, zero, suc, ◌+◌, ◌-◌, ◌*◌, ◌<◌, ◌≤◌, ◌^◌, true, false, not, ◌&&◌, cond, inl, inr, List, [], ◌∷◌, length, map, Option, Some, None, is_none, option_map, refl, sym, ap, subst, arith, nat_le, length-append}
use Rattle.std.specs.Option.{option_map_or}
use Rattle.std.proofs.lemmas.Bool.{and_parts, both_ways, cond-false, le-leb, leb-true}
use Rattle.std.proofs.lemmas.List.{length-map}
use Rattle.pack_defs.specs.Book.{BookView}
use Rattle.pack_defs.specs.ChannelMap.{overlaid}
use Rattle.pack_defs.specs.ClockRule.{ClockTest, bidders_in_order, clock_tests, is_active, tests_of, round_order}
use Rattle.pack_defs.specs.Prices.{declines, last_round}
use Rattle.pack_defs.specs.Scenario.{IsWithinLimits}
use Rattle.pack_defs.specs.declared.order.Order.{Order}
use Rattle.pack_defs.specs.declared.scenario.Scenario.{Scenario}
use Rattle.pack_defs.specs.declared.station.Station.{Station}
use Rattle.pack_defs.proofs.Falls.{rounds-within}
use Rattle.pack_defs.proofs.RoundOrderLemmas.{turns-length}
use Rattle.pack_defs.proofs.ComponentLaws.{filter_no_longer}
use Rattle.auction_core.specs.declared.record.Shown.{Shown}
use Rattle.auction_core.specs.QuerySession.{IsQuerySession}
use Rattle.auction_core.specs.ClockRun.{ClockRunView, IsAtRest, IsClockRun, IsDue, IsSettled, core_state, is_roomy, left_of, next_test, tests_left, places_left}
use Rattle.auction_core.specs.Rule.{IsAuction, KeepsTheRule, SettlesQuery}
use Rattle.auction_core.specs.Setup.{SetupView}
use Rattle.auction_core.specs.State.{CoreState, answered, before_start, advance_to_query, has_ended, opening, after_first_test, settled, settled_unasked, shows_room, start_delta, start_fits, start_unasked, started}
use Rattle.auction_core.proofs.ClockRunLemmas.{sound-auction}
use Rattle.auction_core.proofs.ClockRunTests.{go_on-left}
use Rattle.auction_core.proofs.Keeps.{answered-keeps, go-on-start, opening-keeps}
use Rattle.auction_core.proofs.Kept.{kept-rule, rule-kept}

-- ---- how many tests there are

tests-most : (xs : List ℕ) (r n : ℕ) → length xs ≤ 8192 → length (tests_of xs r n) ≤ 8192 * n
tests-most xs r zero few = omega arith
tests-most xs r (suc n) few =
    let test : ℕ → ClockTest = λ f. record { round = r; station = f } in
    let one = length-map xs test in
    let rest = tests-most xs (r + 1) n few in
    let both = length-append (map test xs) (tests_of xs (r + 1) n) in
    omega (arith, one, rest, both, few)

tests-few : (sc : Scenario) (order : Order) → IsWithinLimits sc → length (clock_tests sc order) ≤ 8200192
tests-few sc order l =
    let bids = filter_no_longer (λ f. not (declines sc f 0)) (round_order sc order) in
    let each = turns-length sc order in
    let all = length-map sc.stations (λ (x : Station). x.id) in
    let stations = l.stations in
    let rounds = rounds-within sc l in
    let few : length (bidders_in_order sc order) ≤ 8192 = omega (arith, bids, each, all, stations) in
    let last : last_round sc ≤ 1001 = omega (arith, rounds) in
    let most = tests-most (bidders_in_order sc order) 1 (last_round sc) few in
    omega (arith, most, last)

-- the number of the next query fits in 64 bits
pub number-fits : (sc : Scenario) (order : Order) (number left : ℕ) → IsWithinLimits sc → number + left ≤ length (clock_tests sc order) + 2 → number + 1 < 2 ^ 64
number-fits sc order number left l h = let few = tests-few sc order l in omega (arith, few, h)

-- ---- room for steps

-- there is room for a step of every turn that is left, and for one verdict
pub room-parts : (s : SetupView) (c : ClockRunView) → is_roomy s c ≡ true → (places_left s c ≤ c.test_history.room) × (1 ≤ c.test_history.verdicts)
room-parts s c h =
    let parts = and_parts (nat_le (places_left s c) c.test_history.room) (nat_le 1 c.test_history.verdicts) h in
    (leb-true (places_left s c) c.test_history.room parts.0, leb-true 1 c.test_history.verdicts parts.1)

one-turn : (later stations place_in_round room : ℕ) → place_in_round < stations → later + (stations - place_in_round) ≤ room → 1 ≤ room
one-turn later stations place_in_round room inside h = omega arith

one-less : (later stations place_in_round old new : ℕ) → place_in_round < stations → later + (stations - place_in_round) ≤ old → old ≤ new + 1 → later + (stations - (place_in_round + 1)) ≤ new
one-less later stations place_in_round old new inside h more = omega arith

-- there is room for the step of a test that is due
pub due-room : (s : SetupView) (c : ClockRunView) → IsDue s c → places_left s c ≤ c.test_history.room → 1 ≤ c.test_history.room
due-room s c due h =
    one-turn ((last_round s.scenario - c.round) * (length s.scenario.stations + 1)) (length s.scenario.stations) c.place_in_round c.test_history.room due.place_in_round h

-- after a settled step there is still room for the steps of the remaining turns
pub settled-room : (s : SetupView) (old new : ClockRunView) → IsDue s old → places_left s old ≤ old.test_history.room → old.test_history.room ≤ new.test_history.room + 1 → new.place_in_round ≡ old.place_in_round + 1 → new.round ≡ old.round → places_left s new ≤ new.test_history.room
settled-room s old new due h more place_in_round round =
    let stations = length s.scenario.stations in
    let later : ℕ → ℕ = λ r. (last_round s.scenario - r) * (stations + 1) in
    subst (λ r. later r + (stations - new.place_in_round) ≤ new.test_history.room) (sym round)
    (subst (λ t. later old.round + (stations - t) ≤ new.test_history.room) (sym place_in_round)
    (one-less (later old.round) stations old.place_in_round old.test_history.room new.test_history.room due.place_in_round h more))

-- ---- how many tests are left

pub go_on-fewer : (sc : Scenario) (book : BookView) (ts : List ClockTest) (state : CoreState) → length (advance_to_query sc book ts state).left ≤ length ts
go_on-fewer sc book [] state = omega arith
go_on-fewer sc book (t ∷ ts) state =
    let at : CoreState = record state { left = t ∷ ts } in
    let inner : (o : Option Shown) → length (option_map_or (advance_to_query sc book ts) (option_map (settled sc state t) o) at).left ≤ length (t ∷ ts) = λ o. elim o as (λ o. length (option_map_or (advance_to_query sc book ts) (option_map (settled sc state t) o) at).left ≤ length (t ∷ ts)) [
      | None ↦ omega arith
      | Some shown ↦ let rest = go_on-fewer sc book ts (settled sc state t shown) in omega (arith, rest)
    ] in
    elim (is_active state.clock t.station) as (λ b. length (option_map_or (advance_to_query sc book ts) (cond b (option_map (settled sc state t) (settled_unasked sc book state t)) (Some state)) at).left ≤ length (t ∷ ts)) [
      | true ↦ inner (settled_unasked sc book state t)
      | false ↦ let rest = go_on-fewer sc book ts state in omega (arith, rest)
    ]

-- the state with which the clock begins
abbrev pub first_state : CoreState → Shown → CoreState
first_state state shown = record state { start = Some shown; map = overlaid state.map (start_delta shown) }

pub started-fewer : (sc : Scenario) (book : BookView) (state : CoreState) (shown : Shown) → state.left ≡ [] → length (started sc book state shown).left ≤ length (clock_tests sc state.order)
started-fewer sc book state shown none =
    elim (shows_room shown) as (λ b. length (cond b (advance_to_query sc book (clock_tests sc state.order) (first_state state shown)) (record state { start = Some shown })).left ≤ length (clock_tests sc state.order)) [
      | true ↦ go_on-fewer sc book (clock_tests sc state.order) (first_state state shown)
      | false ↦ let is_zero : length state.left ≡ 0 = ap length none in omega (arith, is_zero)
    ]

pub started-start : (sc : Scenario) (book : BookView) (state : CoreState) (shown : Shown) → (started sc book state shown).start ≡ Some shown
started-start sc book state shown =
    elim (shows_room shown) as (λ b. (cond b (advance_to_query sc book (clock_tests sc state.order) (first_state state shown)) (record state { start = Some shown })).start ≡ Some shown) [
      | true ↦ (go-on-start sc book (clock_tests sc state.order) (first_state state shown)).0
      | false ↦ refl
    ]

-- ---- a query is settled

-- settling the start test
pub answered-start : (s : SetupView) (old new : ClockRunView) (number : ℕ) (shown : Shown) → old.start ≡ None → ((n : ℕ) → core_state s new n ≡ started s.scenario s.book (core_state s old n) shown) → core_state s new (number + 1) ≡ answered s.scenario s.book (core_state s old number) shown
answered-start s old new number shown fresh state =
    let next : CoreState = core_state s old (number + 1) in
    state (number + 1) ∙ sym (ap (λ o. cond (is_none o) (started s.scenario s.book next shown) (after_first_test s.scenario s.book next shown (left_of s old))) fresh)

-- settling a test of the clock
pub answered-test : (s : SetupView) (old mid new : ClockRunView) (number : ℕ) (shown : Shown) → is_none old.start ≡ false → IsSettled s shown old mid → ((n : ℕ) → core_state s new n ≡ advance_to_query s.scenario s.book (left_of s mid) (core_state s mid n)) → core_state s new (number + 1) ≡ answered s.scenario s.book (core_state s old number) shown
answered-test s old mid new number shown some is state =
    let t = next_test s old in
    let next : CoreState = core_state s old (number + 1) in
    state (number + 1)
    ∙ (ap (advance_to_query s.scenario s.book (left_of s mid)) (is.state (number + 1))
    ∙ (go_on-left s.scenario s.book (left_of s mid) (left_of s mid) (settled s.scenario next t shown)
    ∙ (ap (after_first_test s.scenario s.book next shown) (sym is.left)
    ∙ sym (cond-false (is_none old.start) (started s.scenario s.book next shown) (after_first_test s.scenario s.book next shown (left_of s old)) some))))

-- ---- what the program keeps

keeps : (sc : Scenario) (book : BookView) (state new : CoreState) (shown : Shown) → IsAuction sc book → KeepsTheRule sc book state → has_ended state ≡ false → SettlesQuery sc book state shown → new ≡ answered sc book state shown → KeepsTheRule sc book new
keeps sc book state new shown a k on h e = subst (KeepsTheRule sc book) (sym e) (kept-rule sc book (answered sc book state shown) (answered-keeps sc book state shown a (rule-kept sc book state k) on h))

pub query_session-start : (s : SetupView) (old new : ClockRunView) (number : ℕ) (shown : Shown) → IsQuerySession s old number → old.start ≡ None →
    has_ended (core_state s old number) ≡ false → SettlesQuery s.scenario s.book (core_state s old number) shown →
    IsClockRun s new → (start_fits new.start ≡ true → IsAtRest s new) → ((n : ℕ) → core_state s new n ≡ started s.scenario s.book (core_state s old n) shown) → IsQuerySession s new (number + 1)
query_session-start s old new number shown h fresh on settles holds rest state =
    let left : left_of s new ≡ (started s.scenario s.book (core_state s old 0) shown).left = ap (λ (z : CoreState). z.left) (state 0) in
    let none : left_of s old ≡ [] = ap (λ o. cond (start_fits o) (tests_left s old.round old.place_in_round) []) fresh in
    let few = started-fewer s.scenario s.book (core_state s old 0) shown none in
    let same : length (left_of s new) ≡ length (started s.scenario s.book (core_state s old 0) shown).left = ap length left in
    let first = h.first fresh in
    let some : new.start ≡ Some shown = ap (λ (z : CoreState). z.start) (state 0) ∙ started-start s.scenario s.book (core_state s old 0) shown in
    record {
      clock_run = holds;
      rest = rest;
      rule = keeps s.scenario s.book (core_state s old number) (core_state s new (number + 1)) shown (sound-auction s h.clock_run.sound) h.rule on settles (answered-start s old new number shown fresh state);
      first = λ e. let no : Some shown ≡ None = sym some ∙ e in cc;
      tests = omega (arith, few, same, first);
    }

pub query_session-test : (s : SetupView) (old mid new : ClockRunView) (number : ℕ) (shown : Shown) → IsQuerySession s old number → is_none old.start ≡ false →
    has_ended (core_state s old number) ≡ false → SettlesQuery s.scenario s.book (core_state s old number) shown →
    IsSettled s shown old mid → IsClockRun s new → IsAtRest s new → new.start ≡ old.start → ((n : ℕ) → core_state s new n ≡ advance_to_query s.scenario s.book (left_of s mid) (core_state s mid n)) → IsQuerySession s new (number + 1)
query_session-test s old mid new number shown h some on settles is holds rest same state =
    let left : length (left_of s new) ≡ length (advance_to_query s.scenario s.book (left_of s mid) (core_state s mid 0)).left = ap (λ (z : CoreState). length z.left) (state 0) in
    let few = go_on-fewer s.scenario s.book (left_of s mid) (core_state s mid 0) in
    let one : length (left_of s old) ≡ suc (length (left_of s mid)) = ap length is.left in
    let tests = h.tests in
    record {
      clock_run = holds;
      rest = λ _. rest;
      rule = keeps s.scenario s.book (core_state s old number) (core_state s new (number + 1)) shown (sound-auction s h.clock_run.sound) h.rule on settles (answered-test s old mid new number shown some is state);
      first = λ e. absurd (both_ways (is_none old.start) some (ap is_none (sym same ∙ e)));
      tests = omega (arith, left, few, one, tests);
    }

-- how the opening state arises
pub opening-none : (sc : Scenario) (book : BookView) (order : Order) → start_unasked sc book ≡ None → before_start sc order ≡ opening sc book order
unfolding opening
opening-none sc book order e = sym (ap (λ o. option_map_or (started sc book (before_start sc order)) o (before_start sc order)) e)

pub opening-some : (sc : Scenario) (book : BookView) (order : Order) (shown : Shown) → start_unasked sc book ≡ Some shown → started sc book (before_start sc order) shown ≡ opening sc book order
unfolding opening
opening-some sc book order shown e = sym (ap (λ o. option_map_or (started sc book (before_start sc order)) o (before_start sc order)) e)

opening-fewer : (sc : Scenario) (book : BookView) (order : Order) → length (opening sc book order).left ≤ length (clock_tests sc order)
unfolding opening
opening-fewer sc book order = elim (start_unasked sc book) as (λ o. length (option_map_or (started sc book (before_start sc order)) o (before_start sc order)).left ≤ length (clock_tests sc order)) [
  | None ↦ omega arith
  | Some shown ↦ started-fewer sc book (before_start sc order) shown refl
]

pub query_session-opening : (s : SetupView) (c : ClockRunView) → IsClockRun s c → (start_fits c.start ≡ true → IsAtRest s c) → core_state s c 1 ≡ opening s.scenario s.book s.order → IsQuerySession s c 1
query_session-opening s c holds rest e =
    let same : length (left_of s c) ≡ length (opening s.scenario s.book s.order).left = ap (λ (z : CoreState). length z.left) e in
    let few = opening-fewer s.scenario s.book s.order in
    record {
      clock_run = holds;
      rest = rest;
      rule = subst (KeepsTheRule s.scenario s.book) (sym e) (kept-rule s.scenario s.book (opening s.scenario s.book s.order) (opening-keeps s.scenario s.book s.order (sound-auction s holds.sound)));
      first = λ _. refl;
      tests = omega (arith, same, few);
    }

-- ---- room does not matter

abbrev pub with_room : ClockRunView → ℕ → ℕ → ClockRunView
with_room c room verdicts = record c { test_history = record c.test_history { room = room; verdicts = verdicts } }

-- enough room stays enough if no room is lost
pub roomy-kept : (s : SetupView) (c : ClockRunView) (room verdicts : ℕ) → c.test_history.room ≤ room → c.test_history.verdicts ≤ verdicts → is_roomy s c ≡ true → is_roomy s (with_room c room verdicts) ≡ true
roomy-kept s c room verdicts more told h =
    let parts = room-parts s c h in
    ap (λ b. b && nat_le 1 verdicts) (le-leb (places_left s c) room (omega (arith, parts.0, more))) ∙ le-leb 1 verdicts (omega (arith, parts.1, told))

rest-roomier : (s : SetupView) (c : ClockRunView) (room verdicts : ℕ) → IsAtRest s c → IsAtRest s (with_room c room verdicts)
rest-roomier s c room verdicts (inl over) = inl over
rest-roomier s c room verdicts (inr query) = inr (record { place_in_round = query.0.place_in_round; active = query.0.active }, query.1)

pub clock_run-roomier : (s : SetupView) (c : ClockRunView) (room verdicts : ℕ) → IsClockRun s c → IsClockRun s (with_room c room verdicts)
clock_run-roomier s c room verdicts h = record {
  sound = h.sound;
  clock = h.clock;
  stations = h.stations;
  begun = h.begun;
  round = h.round;
  place_in_round = h.place_in_round;
  bid = h.bid;
  idle = λ off. let i = h.idle off in record { steps = i.steps; map = i.map; round = i.round; place_in_round = i.place_in_round };
  each = h.each;
  test_history = record { component_labels = h.test_history.component_labels; on_air = h.test_history.on_air; long = h.test_history.long; seen = h.test_history.seen; fits = h.test_history.fits };
  rule = λ running. let r = h.rule running in record { before = r.before; all_tests = r.all_tests; progress = r.progress };
}

pub roomier : (s : SetupView) (c : ClockRunView) (number room verdicts : ℕ) → IsQuerySession s c number → IsQuerySession s (with_room c room verdicts) number
roomier s c number room verdicts h = record {
  clock_run = clock_run-roomier s c room verdicts h.clock_run;
  rest = λ running. rest-roomier s c room verdicts (h.rest running);
  rule = h.rule;
  first = h.first;
  tests = h.tests;
}
