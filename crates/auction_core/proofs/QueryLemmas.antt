-- The current query may be put to a solver; and how many queries are left once it is answered.
use Rattle.std.proofs.Common.{◌≡◌, ◌∙◌, ℕ, ◌+◌, ◌<◌, ◌≤◌, Bool, true, false, not, cond, ◌&&◌, ◌||◌, ◌==◌, ◌⊎◌, inl, inr, List, [], ◌∷◌, length, map, find, Option, Some, None, is_none, option_map, refl, sym, ap, subst, arith, Contains, MatchOption}
use Rattle.std.specs.Prelude.{⊤}
use Rattle.std.specs.List.{list_all}
use Rattle.std.specs.Option.{option_map_or, option_or}
use Rattle.std.proofs.lemmas.Bool.{and_from, cases_Bool, eq-eqb, eqb-true, or_cases, or_left, or_right, true≢false}
use Rattle.pack_defs.specs.declared.pair.Pair.{Pair}
use Rattle.pack_defs.specs.declared.scenario.Scenario.{Scenario}
use Rattle.pack_defs.specs.Book.{BookView, domain_of}
use Rattle.pack_defs.specs.Components.{component}
use Rattle.pack_defs.specs.Lists.{has_station, is_ascending, is_empty, is_in}
use Rattle.pack_defs.specs.Packing.{IsClean}
use Rattle.pack_defs.specs.Prices.{declines, start_set}
use Rattle.pack_defs.specs.Scenario.{facilities}
use Rattle.pack_defs.specs.ClockRule.{ClockTest, asked_set, clock_tests, is_active, is_on_air, on_air_set}
use Rattle.pack_defs.proofs.Members.{Contains-filter, Contains-from_filter, Contains-from_map, Contains-nil, is_in-from, is_in-gives, list_all-from, list_any-from}
use Rattle.pack_defs.proofs.Words.{ascending-from}
use Rattle.pack_defs.proofs.Chains.{ascending-filter}
use Rattle.assign_check.specs.declared.fault.MapFault.TheVariants.{Violates}
use Rattle.assign_check.specs.Fault.{extra, first_fault, is_violated, missing, off_domain, violation}
use Rattle.assign_check.proofs.Faultless.{faultless, on-stations}
use Rattle.cert_types.specs.Query.{IsQuery as MayBeAsked, has_channels, places_others, is_on_domains}
use Rattle.cert_types.proofs.QueryLaws.{query-of}
use Rattle.auction_core.specs.declared.record.Shown.{Shown}
use Rattle.auction_core.specs.declared.record.Shown.TheVariants.{Empty, NoChannel, Same}
use Rattle.auction_core.specs.QuerySession.{QuerySessionView, IsQuerySession}
use Rattle.auction_core.specs.ClockRun.{ClockRunView, core_state, is_roomy}
use Rattle.auction_core.specs.Rule.{IsQueryNext as IsNext, KeepsTheRule}
use Rattle.auction_core.specs.Setup.{IsOfAuction, SetupView}
use Rattle.auction_core.specs.State.{CoreState, answered, first_task, advance_to_query, has_ended, is_same, after_first_test, queries_left, restricted, settled, settled_unasked, shows_room, start_task, start_unasked, started, task_of, test_task}
use Rattle.auction_core.proofs.Answers.{component-ascending, filter-in, in-filter}
use Rattle.auction_core.proofs.QuerySessionLemmas.{first_state, go_on-fewer, started-start}
use Rattle.auction_core.proofs.Keeps.{go-on-start, task-is}
use Rattle.auction_core.proofs.Kept.{IsAtStart, IsUnderWay, Stands, match-false, match-true, rule-kept}
use Rattle.auction_core.proofs.Merged.{in-component}

-- ---- the query of the start

none-bare : (p : ℕ → Bool) (xs : List ℕ) → find p xs ≡ None → list_all (λ s. not (p s)) xs ≡ true
none-bare p [] h = refl
none-bare p (x ∷ xs) h =
    (elim (p x) as (λ b. cond b (Some x) (find p xs) ≡ None → (not b && list_all (λ s. not (p s)) xs) ≡ true) [
      | true ↦ λ k. cc
      | false ↦ λ k. none-bare p xs k
    ]) h

start-channels : (sc : Scenario) (book : BookView) → start_unasked sc book ≡ None → has_channels book (start_set sc) ≡ true
start-channels sc book h =
    let bare : Option ℕ = find (λ s. is_empty (domain_of book s)) (start_set sc) in
    let inner : (o : Option ℕ) → option_map NoChannel o ≡ None → o ≡ None = λ o. elim o as (λ o. option_map NoChannel o ≡ None → o ≡ None) [
      | None ↦ λ k. refl
      | Some s ↦ λ k. cc
    ] in
    let outer : (b : Bool) → cond b (Some Empty) (option_map NoChannel bare) ≡ None → bare ≡ None = λ b. elim b as (λ b. cond b (Some Empty) (option_map NoChannel bare) ≡ None → bare ≡ None) [
      | true ↦ λ k. cc
      | false ↦ λ k. inner bare k
    ] in
    none-bare (λ s. is_empty (domain_of book s)) (start_set sc) (outer (is_empty (start_set sc)) h)

from-parts : (book : BookView) (n r : ℕ) (o : Option ℕ) (set : List ℕ) (last : List (ℕ × ℕ)) → is_ascending set ≡ true → has_channels book set ≡ true → is_on_domains book set last ≡ true → violation book last ≡ None → places_others o set last ≡ true → MayBeAsked book (record { number = n; round = r; station = o; set = set; last = last })
from-parts book n r o set last a c d v h = query-of book (record { number = n; round = r; station = o; set = set; last = last }) (record { rises = a; channels = c; domains = d; clean = v; others = h })

-- no pair has both its entries in an empty map
none-violated : (ps : List Pair) → find (is_violated []) ps ≡ None
none-violated [] = refl
none-violated (p ∷ ps) = none-violated ps

start-query : (sc : Scenario) (book : BookView) (state : CoreState) → IsOfAuction sc book → start_unasked sc book ≡ None → MayBeAsked book (start_task sc state.number)
start-query sc book state a h =
    from-parts book state.number 0 None (start_set sc) [] (ascending-filter (λ f. declines sc f 0) (facilities sc) (ascending-from (facilities sc) a.limits.ascend)) (start-channels sc book h) refl (ap (option_map Violates) (none-violated book.pairs)) refl

-- ---- the query of a test

-- a clean map restricted to some of its stations is clean
part-clean : (book : BookView) (m : List (ℕ × ℕ)) (set : List ℕ) → IsClean book m → IsClean book (restricted m set)
part-clean book m set clean = record {
  on_domain = λ x k. clean.on_domain x (Contains-from_filter (λ (e : ℕ × ℕ). is_in set e.0) m x k).0;
  apart = λ x y k l. clean.apart x y (Contains-from_filter (λ (e : ℕ × ℕ). is_in set e.0) m x k).0 (Contains-from_filter (λ (e : ℕ × ℕ). is_in set e.0) m y l).0;
}

second-none : {A : Type 0} (a b : Option A) → option_or a b ≡ None → b ≡ None
second-none None b e = e
second-none (Some x) b e = cc

-- a clean map violates no pair
none-violates : (book : BookView) (m : List (ℕ × ℕ)) → IsClean book m → violation book m ≡ None
unfolding first_fault
none-violates book m clean =
    let set : List ℕ = map (λ x. x.0) m in
    second-none (off_domain book m) (violation book m)
    (second-none (extra set m) (option_or (off_domain book m) (violation book m))
    (second-none (missing set m) (option_or (extra set m) (option_or (off_domain book m) (violation book m)))
    (faultless book set m (on-stations book set m refl clean))))

-- a station of the set that the map has is in the restricted map
part-has : (m : List (ℕ × ℕ)) (set : List ℕ) (s : ℕ) → is_in set s ≡ true → is_in (map (λ x. x.0) m) s ≡ true → has_station (restricted m set) s ≡ true
part-has m set s own h =
    let (x, listed, is) = Contains-from_map (λ (e : ℕ × ℕ). e.0) m s (is_in-gives (map (λ (e : ℕ × ℕ). e.0) m) s h) in
    list_any-from (λ (e : ℕ × ℕ). e.0 == s) (restricted m set) x (Contains-filter (λ (e : ℕ × ℕ). is_in set e.0) m x listed (subst (λ z. is_in set z ≡ true) (sym is) own)) (eq-eqb x.0 s is)

some-channel : (xs : List ℕ) (c : ℕ) → Contains xs c → is_empty xs ≡ false
some-channel [] c h = absurd (Contains-nil c h)
some-channel (x ∷ xs) c h = refl

-- a station of a clean map has a channel
on-map : (book : BookView) (m : List (ℕ × ℕ)) (s : ℕ) → IsClean book m → is_in (map (λ x. x.0) m) s ≡ true → is_empty (domain_of book s) ≡ false
on-map book m s clean h =
    let (x, listed, is) = Contains-from_map (λ (e : ℕ × ℕ). e.0) m s (is_in-gives (map (λ (e : ℕ × ℕ). e.0) m) s h) in
    some-channel (domain_of book s) x.1 (subst (λ z. Contains (domain_of book z) x.1) is (clean.on_domain x listed))

-- each station that a test asks about is the tested one or on air
asked-on_air : (sc : Scenario) (book : BookView) (state : CoreState) (t : ClockTest) (s : ℕ) → map (λ x. x.0) state.map ≡ on_air_set sc state.clock → is_in (component book (asked_set sc state.clock t.station) t.station) s ≡ true → (is_in (map (λ x. x.0) state.map) s ≡ true) ⊎ ((s == t.station) ≡ true)
asked-on_air sc book state t s stations h =
    let parts = filter-in (λ f. is_on_air state.clock f || (f == t.station)) (facilities sc) s (in-component book (asked_set sc state.clock t.station) t.station s h) in
    elim (or_cases (is_on_air state.clock s) (s == t.station) parts.1) [
      | inl air ↦ inl (subst (λ xs. is_in xs s ≡ true) (sym stations) (in-filter (λ f. is_on_air state.clock f) (facilities sc) s parts.0 air))
      | inr same ↦ inr same
    ]

-- each of these stations has a channel
asked-channel : (sc : Scenario) (book : BookView) (state : CoreState) (t : ClockTest) (s : ℕ) → IsClean book state.map → map (λ x. x.0) state.map ≡ on_air_set sc state.clock → is_empty (domain_of book t.station) ≡ false → is_in (component book (asked_set sc state.clock t.station) t.station) s ≡ true → is_empty (domain_of book s) ≡ false
asked-channel sc book state t s clean stations own h =
    elim (asked-on_air sc book state t s stations h) [
      | inl air ↦ on-map book state.map s clean air
      | inr same ↦ subst (λ z. is_empty (domain_of book z) ≡ false) (sym (eqb-true s t.station same)) own
    ]

-- each of these stations is the tested one or in the last map
asked-there : (sc : Scenario) (book : BookView) (state : CoreState) (t : ClockTest) (set : List ℕ) (s : ℕ) → map (λ x. x.0) state.map ≡ on_air_set sc state.clock → set ≡ component book (asked_set sc state.clock t.station) t.station → is_in set s ≡ true → ((s == t.station) || has_station (restricted state.map set) s) ≡ true
asked-there sc book state t set s stations is h =
    elim (asked-on_air sc book state t s stations (subst (λ xs. is_in xs s ≡ true) is h)) [
      | inl air ↦ or_right (s == t.station) (has_station (restricted state.map set) s) (part-has state.map set s h air)
      | inr same ↦ or_left (s == t.station) (has_station (restricted state.map set) s) same
    ]

-- a station whose test needs a query has a channel
asks-channel : (sc : Scenario) (book : BookView) (state : CoreState) (t : ClockTest) → settled_unasked sc book state t ≡ None → is_empty (domain_of book t.station) ≡ false
asks-channel sc book state t e =
    let go : (b : Bool) (o : Option Shown) → cond b (Some (NoChannel t.station)) o ≡ None → b ≡ false = λ b o. elim b as (λ b. cond b (Some (NoChannel t.station)) o ≡ None → b ≡ false) [
      | true ↦ λ k. cc
      | false ↦ λ k. refl
    ] in
    go (is_empty (domain_of book t.station)) (cond (is_same sc book state t) (Some Same) None) e

test-query : (sc : Scenario) (book : BookView) (state : CoreState) (t : ClockTest) → IsOfAuction sc book → IsClean book state.map → map (λ x. x.0) state.map ≡ on_air_set sc state.clock → is_empty (domain_of book t.station) ≡ false → MayBeAsked book (test_task sc book state t)
test-query sc book state t a clean stations own =
    let set : List ℕ = component book (asked_set sc state.clock t.station) t.station in
    let rises = component-ascending book (asked_set sc state.clock t.station) t.station (ascending-filter (λ f. is_on_air state.clock f || (f == t.station)) (facilities sc) (ascending-from (facilities sc) a.limits.ascend)) in
    let channels : has_channels book set ≡ true = list_all-from (λ s. not (is_empty (domain_of book s))) set (λ s listed. ap not (asked-channel sc book state t s clean stations own (is_in-from set s listed))) in
    let on : is_on_domains book set (restricted state.map set) ≡ true = list_all-from (λ (x : ℕ × ℕ). is_in set x.0 && is_in (domain_of book x.0) x.1) (restricted state.map set) (λ x listed.
    let parts = Contains-from_filter (λ (x : ℕ × ℕ). is_in set x.0) state.map x listed in
    and_from (is_in set x.0) (is_in (domain_of book x.0) x.1) parts.1 (is_in-from (domain_of book x.0) x.1 (clean.on_domain x parts.0))) in
    let others : places_others (Some t.station) set (restricted state.map set) ≡ true = list_all-from (λ s. (s == t.station) || has_station (restricted state.map set) s) set (λ s listed. asked-there sc book state t set s stations refl (is_in-from set s listed)) in
    from-parts book state.number t.round (Some t.station) set (restricted state.map set) rises channels on (none-violates book (restricted state.map set) (part-clean book state.map set clean)) others

-- ---- the current query

pub task-query : (sc : Scenario) (book : BookView) (state : CoreState) → IsOfAuction sc book → KeepsTheRule sc book state → MatchOption (task_of sc book state) ⊤ (MayBeAsked book)
task-query sc book state a k =
    let under : (start : Shown) (t : ClockTest) (ts : List ClockTest) → state.left ≡ t ∷ ts → Stands sc book state (Some start) → MayBeAsked book (test_task sc book state t) = λ start t ts f stands.
    elim (cases_Bool (shows_room start)) [
      | inl room ↦
          let u = match-true (IsUnderWay sc book start state) (IsAtStart sc book state) (shows_room start) room stands in
          let query : (is_active state.clock t.station ≡ true) × (settled_unasked sc book state t ≡ None) = subst (IsNext sc book state) f u.query in
          test-query sc book state t a u.clean u.stations (asks-channel sc book state t query.1)
      | inr none ↦
          let at = match-false (IsUnderWay sc book start state) (IsAtStart sc book state) (shows_room start) none stands in
          let bare : t ∷ ts ≡ [] = sym f ∙ at.left in
          cc
    ] in
    let go : (o : Option Shown) (l : List ClockTest) → state.start ≡ o → state.left ≡ l → Stands sc book state o → MatchOption (cond (is_none o) (Some (start_task sc state.number)) (first_task sc book state l)) ⊤ (MayBeAsked book) = λ o l. elim o as (λ o. state.start ≡ o → state.left ≡ l → Stands sc book state o → MatchOption (cond (is_none o) (Some (start_task sc state.number)) (first_task sc book state l)) ⊤ (MayBeAsked book)) [
      | None ↦ λ e f stands. start-query sc book state a (stands.query e)
      | Some start ↦ elim l as (λ l. state.start ≡ Some start → state.left ≡ l → Stands sc book state (Some start) → MatchOption (first_task sc book state l) ⊤ (MayBeAsked book)) [
        | [] ↦ λ e f stands. tt
        | t ∷ ts ↦ λ e f stands. under start t ts f stands
      ]
    ] in
    subst (λ o. MatchOption o ⊤ (MayBeAsked book)) (sym (task-is sc book state state.start state.left refl refl)) (go state.start state.left refl refl (rule-kept sc book state k).stands)

-- the same for a query session
pub query_session-query : (s : SetupView) (c : ClockRunView) (number : ℕ) (v : QuerySessionView) → IsQuerySession s c number → record { scenario = s.scenario; book = s.book; state = core_state s c number; ready = is_roomy s c } ≡ v → MatchOption (task_of v.scenario v.book v.state) ⊤ (MayBeAsked v.book)
query_session-query s c number v h e =
    subst (λ (w : QuerySessionView). MatchOption (task_of w.scenario w.book w.state) ⊤ (MayBeAsked w.book)) e
    (task-query s.scenario s.book (core_state s c number) h.clock_run.sound.auction h.rule)

-- ---- the number of the query

go_on-number : (sc : Scenario) (book : BookView) (ts : List ClockTest) (state : CoreState) → (advance_to_query sc book ts state).number ≡ state.number
go_on-number sc book [] state = refl
go_on-number sc book (t ∷ ts) state =
    let at : CoreState = record state { left = t ∷ ts } in
    let inner : (o : Option Shown) → (option_map_or (advance_to_query sc book ts) (option_map (settled sc state t) o) at).number ≡ state.number = λ o. elim o as (λ o. (option_map_or (advance_to_query sc book ts) (option_map (settled sc state t) o) at).number ≡ state.number) [
      | None ↦ refl
      | Some shown ↦ go_on-number sc book ts (settled sc state t shown)
    ] in
    elim (is_active state.clock t.station) as (λ b. (option_map_or (advance_to_query sc book ts) (cond b (option_map (settled sc state t) (settled_unasked sc book state t)) (Some state)) at).number ≡ state.number) [
      | true ↦ inner (settled_unasked sc book state t)
      | false ↦ go_on-number sc book ts state
    ]

started-number : (sc : Scenario) (book : BookView) (state : CoreState) (shown : Shown) → (started sc book state shown).number ≡ state.number
started-number sc book state shown =
    elim (shows_room shown) as (λ b. (cond b (advance_to_query sc book (clock_tests sc state.order) (first_state state shown)) (record state { start = Some shown })).number ≡ state.number) [
      | true ↦ go_on-number sc book (clock_tests sc state.order) (first_state state shown)
      | false ↦ refl
    ]

-- a settled query is followed by one with the next number
pub answered-number : (sc : Scenario) (book : BookView) (state : CoreState) (shown : Shown) → (answered sc book state shown).number ≡ state.number + 1
answered-number sc book state shown =
    let next : CoreState = record state { noted = []; number = state.number + 1 } in
    let test_history : (l : List ClockTest) → (after_first_test sc book next shown l).number ≡ state.number + 1 = λ l. elim l as (λ l. (after_first_test sc book next shown l).number ≡ state.number + 1) [
      | [] ↦ refl
      | t ∷ ts ↦ go_on-number sc book ts (settled sc next t shown)
    ] in
    elim (is_none state.start) as (λ b. (cond b (started sc book next shown) (after_first_test sc book next shown state.left)).number ≡ state.number + 1) [
      | true ↦ started-number sc book next shown
      | false ↦ test_history state.left
    ]

started-most : (sc : Scenario) (book : BookView) (state : CoreState) (shown : Shown) → length (started sc book state shown).left ≤ length (clock_tests sc state.order) + length state.left
started-most sc book state shown =
    elim (shows_room shown) as (λ b. length (cond b (advance_to_query sc book (clock_tests sc state.order) (first_state state shown)) (record state { start = Some shown })).left ≤ length (clock_tests sc state.order) + length state.left) [
      | true ↦ let few = go_on-fewer sc book (clock_tests sc state.order) (first_state state shown) in omega (arith, few)
      | false ↦ omega arith
    ]

-- ---- fewer queries are left

pub answered-fewer : (sc : Scenario) (book : BookView) (state : CoreState) (shown : Shown) → has_ended state ≡ false → queries_left sc (answered sc book state shown) < queries_left sc state
answered-fewer sc book state shown on =
    let next : CoreState = record state { noted = []; number = state.number + 1 } in
    let go : (o : Option Shown) (l : List ClockTest) → state.start ≡ o → state.left ≡ l → cond (is_none o) false (is_empty l) ≡ false → queries_left sc (cond (is_none o) (started sc book next shown) (after_first_test sc book next shown l)) < length l + cond (is_none o) (length (clock_tests sc state.order) + 1) 0 = λ o l. elim o as (λ o. state.start ≡ o → state.left ≡ l → cond (is_none o) false (is_empty l) ≡ false → queries_left sc (cond (is_none o) (started sc book next shown) (after_first_test sc book next shown l)) < length l + cond (is_none o) (length (clock_tests sc state.order) + 1) 0) [
      | None ↦ λ e f k.
          let some : is_none (started sc book next shown).start ≡ false = ap is_none (started-start sc book next shown) in
          let rest : cond (is_none (started sc book next shown).start) (length (clock_tests sc (started sc book next shown).order) + 1) 0 ≡ 0 = ap (λ b. cond b (length (clock_tests sc (started sc book next shown).order) + 1) 0) some in
          let few = started-most sc book next shown in
          let old : length state.left ≡ length l = ap length f in
          omega (arith, rest, few, old)
      | Some start ↦ elim l as (λ l. state.start ≡ Some start → state.left ≡ l → is_empty l ≡ false → queries_left sc (after_first_test sc book next shown l) < length l + 0) [
        | [] ↦ λ e f k. absurd (true≢false k)
        | t ∷ ts ↦ λ e f k.
            let same : is_none (advance_to_query sc book ts (settled sc next t shown)).start ≡ false = ap is_none ((go-on-start sc book ts (settled sc next t shown)).0 ∙ e) in
            let after : CoreState = advance_to_query sc book ts (settled sc next t shown) in
            let rest : cond (is_none after.start) (length (clock_tests sc after.order) + 1) 0 ≡ 0 = ap (λ b. cond b (length (clock_tests sc after.order) + 1) 0) same in
            let few = go_on-fewer sc book ts (settled sc next t shown) in
            omega (arith, rest, few)
      ]
    ] in
    go state.start state.left refl refl on
