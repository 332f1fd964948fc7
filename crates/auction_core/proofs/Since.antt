-- Whether a test asks about the same stations as the one before it, by the labels of the components on air.
use Rattle.std.proofs.Common.{◌≡◌, ℕ, suc, ◌+◌, ◌-◌, ◌<◌, ◌≤◌, ◌↔◌, Bool, true, false, not, ◌==◌, ◌&&◌, ◌||◌, nat_le, if◌then◌else◌, List, [], ◌∷◌, ◌++◌, map, length, Some, Contains, refl, sym, ap, ◌∙◌, subst, ⊎_elim, inl, inr, eqb-true, eq-eqb, ne_eqb, arith, append_assoc, append-nil, length-append}
use Rattle.std.specs.Bool.{MatchBool}
use Rattle.std.specs.List.{list_any}
use Rattle.std.specs.Option.{option_map_or}
use Rattle.std.proofs.lemmas.Bool.{and_parts, and_from, or_cases, or_left, or_right, both_ways, false_from_ne_true, true_from_ne_false, cases_Bool, cond-true, cond-false, leb-true, leb-false}
use Rattle.std.proofs.lemmas.List.Folds.{list_any-append}
use Rattle.pack_defs.specs.Book.{BookView}
use Rattle.pack_defs.specs.Lists.{is_in, same_list}
use Rattle.pack_defs.specs.declared.scenario.Scenario.{Scenario}
use Rattle.pack_defs.specs.Scenario.{facilities}
use Rattle.pack_defs.specs.Components.{interferes}
use Rattle.pack_defs.specs.ClockRule.{ClockTest, ClockState, OnAirSince, clock_tests, opening_state, is_active, is_on_air, asked_set, goes_on_air, exits, after_answer, after_test, after_tests, asked_from}
use Rattle.pack_defs.proofs.Members.{Contains-filter, Contains-from_filter, is_in-gives, list_any-from, list_any-gives}
use Rattle.pack_defs.proofs.ComponentLaws.{component-within}
use Rattle.pack_defs.proofs.ClockSteps.{test_idle, run_inactive}
use Rattle.pack_defs.proofs.Rivals.{OneEachRound}
use Rattle.pack_defs.proofs.ThresholdLaw.{opening_rounds}
use Rattle.auction_core.specs.declared.record.Step.{Step}
use Rattle.auction_core.specs.ComponentLabels.{AreComponents, ComponentLabelsView, AreLabelsOf, IsWithOneMore, label_of, labelled, last_seen, number_from, number_on_air, relabelled, touches, touches_since}
use Rattle.auction_core.specs.Rule.{IsAuction}
use Rattle.auction_core.specs.declared.record.Shown.{Shown}
use Rattle.auction_core.specs.Backed.{after_start, after_steps, undecided_of}
use Rattle.auction_core.specs.State.{CoreState, settled, test_of, shows_room, tested_set, set_in, is_same}
use Rattle.auction_core.specs.ClockProgress.{clock_after}
use Rattle.auction_core.proofs.Before.{same-iff, was-active}
use Rattle.auction_core.proofs.Sets.{AreOffAir, IsLater, asked-own}
use Rattle.auction_core.proofs.Tied.{all-before, relabelled-parts}
use Rattle.auction_core.proofs.Walk.{off-air}
use Rattle.pack_defs.proofs.Words.{same-truth}

-- ---- numbers

-- a station in the first part of the list has a number up to the end of that part, and no other station has
number-first : (k : ℕ) (xs ys : List OnAirSince) (s : ℕ) → 1 ≤ k → list_any (λ (x : OnAirSince). x.station == s) xs ≡ true → (number_from k (xs ++ ys) s < k + length xs)
number-first k [] ys s some on = cc
number-first k (x ∷ xs) ys s some on =
    (elim (x.station == s) as (λ b. (b || list_any (λ (x : OnAirSince). x.station == s) xs) ≡ true → (if b then k else number_from (suc k) (xs ++ ys) s) < k + suc (length xs)) [
      | true ↦ λ _. omega arith
      | false ↦ λ rest. let later = number-first (suc k) xs ys s (omega arith) rest in omega (arith, later)
    ]) on

number-later : (k : ℕ) (xs ys : List OnAirSince) (s : ℕ) → list_any (λ (x : OnAirSince). x.station == s) xs ≡ false → list_any (λ (x : OnAirSince). x.station == s) (xs ++ ys) ≡ true → (k + length xs ≤ number_from k (xs ++ ys) s)
number-later k [] ys s out on = from k ys s on
  where
    from : (k : ℕ) (ys : List OnAirSince) (s : ℕ) → list_any (λ (x : OnAirSince). x.station == s) ys ≡ true → k + 0 ≤ number_from k ys s
    from k [] s on = cc
    from k (y ∷ ys) s on =
        (elim (y.station == s) as (λ b. (b || list_any (λ (x : OnAirSince). x.station == s) ys) ≡ true → k + 0 ≤ (if b then k else number_from (suc k) ys s)) [
          | true ↦ λ _. omega arith
          | false ↦ λ rest. let later = from (suc k) ys s rest in omega (arith, later)
        ]) on
number-later k (x ∷ xs) ys s out on =
    (elim (x.station == s) as (λ b. (b || list_any (λ (x : OnAirSince). x.station == s) xs) ≡ false → (b || list_any (λ (x : OnAirSince). x.station == s) (xs ++ ys)) ≡ true → k + suc (length xs) ≤ (if b then k else number_from (suc k) (xs ++ ys) s)) [
      | true ↦ λ e _. cc
      | false ↦ λ e f. let later = number-later (suc k) xs ys s e f in omega (arith, later)
    ]) out on

-- of the stations on air now, those that were on air then have a number up to how many there were then
pub number-then : (was now_ : ClockState) (more : List OnAirSince) (z : ℕ) → now_.on_air ≡ was.on_air ++ more → is_on_air now_ z ≡ true → (is_on_air was z ≡ true) ↔ (number_on_air now_ z < length was.on_air + 1)
number-then was now_ more z is on = (
  λ early. let less = number-first 1 was.on_air more z (omega arith) early in subst (λ xs. number_from 1 xs z < length was.on_air + 1) (sym is) (omega (arith, less)),
  λ less. true_from_ne_false (is_on_air was z) (λ out.
      let late = number-later 1 was.on_air more z out (subst (λ xs. list_any (λ (x : OnAirSince). x.station == z) xs ≡ true) is on) in
      let less' : number_from 1 (was.on_air ++ more) z < length was.on_air + 1 = subst (λ xs. number_from 1 xs z < length was.on_air + 1) is less in
      omega (arith, late, less')),
)

-- ---- the last test of a station

-- the stations on air stay at the head of the list
answered-more : (sc : Scenario) (c : ClockState) (t : ClockTest) (b : Bool) → (more : List OnAirSince) × ((after_answer sc c t b).on_air ≡ c.on_air ++ more)
answered-more sc c t false = ([], sym (append-nil c.on_air))
answered-more sc c t true =
    elim (exits sc t) as (λ b. (more : List OnAirSince) × ((if b then goes_on_air c t else c).on_air ≡ c.on_air ++ more)) [
      | true ↦ (record { station = t.station; round = t.round } ∷ [], refl)
      | false ↦ ([], sym (append-nil c.on_air))
    ]

after-more : (sc : Scenario) (c : ClockState) (xs : List Step) → (more : List OnAirSince) × ((clock_after sc c xs).on_air ≡ c.on_air ++ more)
after-more sc c [] = ([], sym (append-nil c.on_air))
after-more sc c (x ∷ xs) =
    let next : ClockState = after_answer sc c (test_of x) (shows_room x.shown) in
    let (one, is) = answered-more sc c (test_of x) (shows_room x.shown) in
    let (rest, then_is) = after-more sc next xs in
    (one ++ rest, then_is ∙ (ap (λ ys. ys ++ rest) is ∙ append_assoc c.on_air one rest))

-- if the next test of a station is in the following round, no step in between is of the station
none-between : (sc : Scenario) (c : ClockState) (xs : List Step) (t : ClockTest) (s k n : ℕ) → OneEachRound s k (map test_of xs ++ t ∷ []) → t.station ≡ s → t.round ≡ k + 1 → last_seen sc c xs s n ≡ n
none-between sc c [] t s k n each is at = refl
none-between sc c (x ∷ xs) t s k n each is at =
    let next : ClockState = after_answer sc c (test_of x) (shows_room x.shown) in
    (elim (x.station == s) as (λ b. MatchBool b ((x.round ≡ k + 1) × OneEachRound s (k + 1) (map test_of xs ++ t ∷ [])) (OneEachRound s k (map test_of xs ++ t ∷ [])) → last_seen sc next xs s (if b then length c.on_air else n) ≡ n) [
      | true ↦ λ rounds. absurd (too-late xs t s (k + 1) rounds.1 is (omega (arith, at)))
      | false ↦ λ rest. none-between sc next xs t s k n rest is at
    ]) each
  where
    too-late : (xs : List Step) (t : ClockTest) (s k : ℕ) → OneEachRound s k (map test_of xs ++ t ∷ []) → t.station ≡ s → t.round ≤ k → ⊥
    too-late [] t s k each is early =
        let first = subst (λ b. MatchBool b ((t.round ≡ k + 1) × OneEachRound s (k + 1) []) (OneEachRound s k [])) (eq-eqb t.station s is) each in
        let round = first.0 in
        omega (arith, round, early)
    too-late (x ∷ xs) t s k each is early =
        (elim (x.station == s) as (λ b. MatchBool b ((x.round ≡ k + 1) × OneEachRound s (k + 1) (map test_of xs ++ t ∷ [])) (OneEachRound s k (map test_of xs ++ t ∷ [])) → ⊥) [
          | true ↦ λ rounds. too-late xs t s (k + 1) rounds.1 is (omega (arith, early))
          | false ↦ λ rest. too-late xs t s k rest is early
        ]) each

-- the set that the station's last test asked about, and how many stations were on air then
record LastTest (sc : Scenario) (book : BookView) (c : ClockState) (xs : List Step) (r s n : ℕ) : Type 0 where
  was : ClockState
  more : List OnAirSince
  set : set_in sc book c xs r s ≡ Some (tested_set sc book was s)
  seen : last_seen sc c xs s n ≡ length was.on_air
  now_is : (clock_after sc c xs).on_air ≡ was.on_air ++ more

last-test : (sc : Scenario) (book : BookView) (c : ClockState) (xs : List Step) (t : ClockTest) (s k n : ℕ) → OneEachRound s k (map test_of xs ++ t ∷ []) → t.station ≡ s → k + 2 ≤ t.round → LastTest sc book c xs (t.round - 1) s n
last-test sc book c [] t s k n each is late =
    let first = subst (λ b. MatchBool b ((t.round ≡ k + 1) × OneEachRound s (k + 1) []) (OneEachRound s k [])) (eq-eqb t.station s is) each in
    let round = first.0 in
    absurd (omega (arith, round, late))
last-test sc book c (x ∷ xs) t s k n each is late =
    let next : ClockState = after_answer sc c (test_of x) (shows_room x.shown) in
    let on : (a : Bool) (m : ℕ) → ((x.round == t.round - 1) && a) ≡ false → (x.station == s) ≡ a → (if a then length c.on_air else n) ≡ m → LastTest sc book next xs (t.round - 1) s m → LastTest sc book c (x ∷ xs) (t.round - 1) s n = λ a m skip of count h. record {
      was = h.was;
      more = h.more;
      set = cond-false ((x.round == t.round - 1) && (x.station == s)) (Some (tested_set sc book c s)) (set_in sc book next xs (t.round - 1) s) (ap (λ b. (x.round == t.round - 1) && b) of ∙ skip) ∙ h.set;
      seen = ap (λ b. last_seen sc next xs s (if b then length c.on_air else n)) of ∙ (ap (λ l. last_seen sc next xs s l) count ∙ h.seen);
      now_is = h.now_is;
    } in
    (elim (x.station == s) as (λ b. (x.station == s) ≡ b → MatchBool b ((x.round ≡ k + 1) × OneEachRound s (k + 1) (map test_of xs ++ t ∷ [])) (OneEachRound s k (map test_of xs ++ t ∷ [])) → LastTest sc book c (x ∷ xs) (t.round - 1) s n) [
      | true ↦ λ e rounds.
          let round = rounds.0 in
          ⊎_elim
          (λ yes.
          let at : t.round ≡ (k + 1) + 1 = let w = eqb-true t.round (k + 2) yes in omega (arith, w) in
          let rest = after-more sc next xs in
          let one = answered-more sc c (test_of x) (shows_room x.shown) in
          record {
            was = c;
            more = one.0 ++ rest.0;
            set = cond-true ((x.round == t.round - 1) && (x.station == s)) (Some (tested_set sc book c s)) (set_in sc book next xs (t.round - 1) s) (and_from (x.round == t.round - 1) (x.station == s) (eq-eqb x.round (t.round - 1) (omega (arith, round, at))) e);
            seen = ap (λ b. last_seen sc next xs s (if b then length c.on_air else n)) e ∙ none-between sc next xs t s (k + 1) (length c.on_air) rounds.1 is at;
            now_is = rest.1 ∙ (ap (λ ys. ys ++ rest.0) one.1 ∙ append_assoc c.on_air one.0 rest.0);
          })
          (λ out.
          let other : t.round ≡ k + 2 → ⊥ = λ w. both_ways (t.round == k + 2) out (eq-eqb t.round (k + 2) w) in
          let apart : x.round ≡ t.round - 1 → ⊥ = λ w. other (omega (arith, round, w, late)) in
          on true (length c.on_air) (ap (λ b. b && true) (ne_eqb x.round (t.round - 1) apart)) e refl (last-test sc book next xs t s (k + 1) (length c.on_air) rounds.1 is (omega (arith, late, other))))
          (cases_Bool (t.round == k + 2))
      | false ↦ λ e rest. on false n (and_no (x.round == t.round - 1)) e refl (last-test sc book next xs t s k n rest is late)
    ]) refl each
  where
    and_no : (b : Bool) → (b && false) ≡ false
    and_no true = refl
    and_no false = refl

-- like all tests, the tests asked of a station that is active afterwards are one a round
asked-rounds : (sc : Scenario) (book : BookView) (U ts after : List ClockTest) (st : ClockState) (t : ClockTest) (s k : ℕ) → OneEachRound s k (ts ++ t ∷ after) → is_active (after_tests sc book U ts st) s ≡ true → t.station ≡ s → OneEachRound s k (asked_from sc book U ts st ++ t ∷ [])
asked-rounds sc book U [] after st t s k each active is =
    let first = subst (λ b. MatchBool b ((t.round ≡ k + 1) × OneEachRound s (k + 1) after) (OneEachRound s k after)) (eq-eqb t.station s is) each in
    subst (λ b. MatchBool b ((t.round ≡ k + 1) × OneEachRound s (k + 1) []) (OneEachRound s k [])) (sym (eq-eqb t.station s is)) (first.0, tt)
asked-rounds sc book U (u ∷ ts) after st t s k each active is =
    let next : ClockState = after_test sc book U st u in
    (elim (is_active st u.station) as (λ b. is_active st u.station ≡ b → OneEachRound s k ((if b then u ∷ asked_from sc book U ts next else asked_from sc book U ts st) ++ t ∷ [])) [
      | true ↦ λ _. (elim (u.station == s) as (λ b. MatchBool b ((u.round ≡ k + 1) × OneEachRound s (k + 1) (ts ++ t ∷ after)) (OneEachRound s k (ts ++ t ∷ after)) → MatchBool b ((u.round ≡ k + 1) × OneEachRound s (k + 1) (asked_from sc book U ts next ++ t ∷ [])) (OneEachRound s k (asked_from sc book U ts next ++ t ∷ []))) [
        | true ↦ λ rounds. (rounds.0, asked-rounds sc book U ts after next t s (k + 1) rounds.1 active is)
        | false ↦ λ rest. asked-rounds sc book U ts after next t s k rest active is
      ]) each
      | false ↦ λ idle.
          let same : next ≡ st = test_idle book U sc st u idle in
          let still : is_active (after_tests sc book U ts st) s ≡ true = subst (λ z. is_active (after_tests sc book U ts z) s ≡ true) same active in
          (elim (u.station == s) as (λ b. (u.station == s) ≡ b → MatchBool b ((u.round ≡ k + 1) × OneEachRound s (k + 1) (ts ++ t ∷ after)) (OneEachRound s k (ts ++ t ∷ after)) → OneEachRound s k (asked_from sc book U ts st ++ t ∷ [])) [
            | true ↦ λ e _. absurd (both_ways (is_active (after_tests sc book U ts st) s) (subst (λ z. is_active (after_tests sc book U ts st) z ≡ false) (eqb-true u.station s e) (run_inactive book U sc ts st u.station idle)) still)
            | false ↦ λ e rest. asked-rounds sc book U ts after st t s k rest still is
          ]) refl each
    ]) refl

-- ---- by the labels

-- the stations with a label are those on air, and a test of another station asks about some of these and that one
pub asks-with-one : (sc : Scenario) (book : BookView) (clock : ClockState) (component_labels : ComponentLabelsView) (s : ℕ) → Contains (facilities sc) s → is_on_air clock s ≡ false → AreLabelsOf sc book clock component_labels → IsWithOneMore (labelled component_labels) (asked_set sc clock s) s
asks-with-one sc book clock component_labels s known off h =
    let listed : (z : ℕ) → Contains (labelled component_labels) z → Contains (facilities sc) z × (is_on_air clock z ≡ true) = λ z c.
    let w = Contains-from_filter (λ v. not (label_of component_labels v == 0)) component_labels.stations z c in
    let there : Contains (facilities sc) z = subst (λ xs. Contains xs z) h.stations w.0 in
    (there, sym (h.on_air z there) ∙ w.1) in
    let lists : (z : ℕ) → Contains (facilities sc) z → is_on_air clock z ≡ true → Contains (labelled component_labels) z = λ z there on.
    Contains-filter (λ v. not (label_of component_labels v == 0)) component_labels.stations z (subst (λ xs. Contains xs z) (sym h.stations) there) (h.on_air z there ∙ on) in
    record {
      each = λ z c. let w = listed z c in Contains-filter (λ f. is_on_air clock f || (f == s)) (facilities sc) z w.0 (or_left (is_on_air clock z) (z == s) w.1);
      one = asked-own sc clock s known;
      only = λ z c.
          let w = Contains-from_filter (λ f. is_on_air clock f || (f == s)) (facilities sc) z c in
          ⊎_elim (λ on. inl (lists z w.0 on)) (λ e. inr (eqb-true z s e)) (or_cases (is_on_air clock z) (z == s) w.1);
      new = λ c. both_ways (is_on_air clock s) off (listed s c).1;
    }

-- a test of a station off air asks about the same stations as before if and only if it touches no component that changed since
pub same-by-parts : (sc : Scenario) (book : BookView) (was now_ : ClockState) (more : List OnAirSince) (component_labels : ComponentLabelsView) (s : ℕ) → IsAuction sc book → Contains (facilities sc) s → is_on_air now_ s ≡ false → now_.on_air ≡ was.on_air ++ more → AreLabelsOf sc book now_ component_labels →
    same_list (tested_set sc book now_ s) (tested_set sc book was s) ≡ not (touches_since book component_labels s (length was.on_air + 1))
same-by-parts sc book was now_ more component_labels s a known off is h =
    let time : ℕ = length was.on_air + 1 in
    let later : IsLater was now_ = λ f on. subst (λ xs. list_any (λ (x : OnAirSince). x.station == f) xs ≡ true) (sym is) (any-first was.on_air more f on) in
    let one : IsWithOneMore (labelled component_labels) (asked_set sc now_ s) s = asks-with-one sc book now_ component_labels s known off h in
    let iff = same-iff sc book was now_ s a known later in
    let before = all-before book (labelled component_labels) (number_on_air now_) (label_of component_labels) h.are (asked_set sc now_ s) s one time in
    let on_air : (z : ℕ) → is_in (tested_set sc book now_ s) z ≡ true → (z ≡ s → ⊥) → is_on_air now_ z ≡ true = λ z there other.
    ⊎_elim (λ on. on) (λ e. absurd (other (eqb-true z s e))) (or_cases (is_on_air now_ z) (z == s) (Contains-from_filter (λ f. is_on_air now_ f || (f == s)) (facilities sc) z (component-within book (asked_set sc now_ s) s z (is_in-gives (tested_set sc book now_ s) z there))).1) in
    same-truth _ _
    (λ same. ap not (false_from_ne_true (touches_since book component_labels s time) (λ yes.
    let (v, c, w) = list_any-gives (λ v. interferes book s v && nat_le time (label_of component_labels v)) (labelled component_labels) yes in
    let both = and_parts (interferes book s v) (nat_le time (label_of component_labels v)) w in
    let low = before.0 (λ z there other. (number-then was now_ more z is (on_air z there other)).0 (iff.0 same z there other)) v c both.0 in
    let high = leb-true time (label_of component_labels v) both.1 in
    omega (arith, low, high))))
    (λ out. iff.1 (λ z there other.
    (number-then was now_ more z is (on_air z there other)).1
    (before.1 (λ v c joined.
    ⊎_elim
    (λ yes. absurd (both_ways (touches_since book component_labels s time) (not-is (touches_since book component_labels s time) out) (list_any-from (λ v. interferes book s v && nat_le time (label_of component_labels v)) (labelled component_labels) v c (and_from (interferes book s v) (nat_le time (label_of component_labels v)) joined yes))))
    (λ no_. leb-false time (label_of component_labels v) no_)
    (cases_Bool (nat_le time (label_of component_labels v))))
    z there other)))
  where
    any-first : (xs ys : List OnAirSince) (f : ℕ) → list_any (λ (x : OnAirSince). x.station == f) xs ≡ true → list_any (λ (x : OnAirSince). x.station == f) (xs ++ ys) ≡ true
    any-first [] ys f on = cc
    any-first (x ∷ xs) ys f on = ⊎_elim (λ l. or_left (x.station == f) _ l) (λ r. or_right (x.station == f) _ (any-first xs ys f r)) (or_cases (x.station == f) (list_any (λ (x : OnAirSince). x.station == f) xs) on)

    not-is : (b : Bool) → not b ≡ true → b ≡ false
    not-is true e = cc
    not-is false e = refl

-- From round 2 on: the test of an active station asks about the same stations as the one before if and only if it touches no
-- component that changed since.
pub same-since : (sc : Scenario) (book : BookView) (U before after : List ClockTest) (state : CoreState) (component_labels : ComponentLabelsView) (t : ClockTest) → IsAuction sc book → clock_tests sc state.order ≡ before ++ t ∷ after → map test_of state.steps ≡ asked_from sc book U before (opening_state sc) → state.clock ≡ after_tests sc book U before (opening_state sc) → clock_after sc (opening_state sc) state.steps ≡ state.clock → AreOffAir sc state.clock → is_active state.clock t.station ≡ true → AreLabelsOf sc book state.clock component_labels → 2 ≤ t.round →
    is_same sc book state t ≡ not (touches_since book component_labels t.station (last_seen sc (opening_state sc) state.steps t.station 0 + 1))
same-since sc book U before after state component_labels t a split tests clock steps off active h late =
    let s : ℕ = t.station in
    let there = off s active in
    let active' : is_active (after_tests sc book U before (opening_state sc)) s ≡ true = subst (λ c. is_active c s ≡ true) clock active in
    let rounds = subst (OneEachRound s 0) split (opening_rounds sc state.order s a.stations (was-active sc book U before s active')) in
    let asked = asked-rounds sc book U before after (opening_state sc) t s 0 rounds active' refl in
    let each : OneEachRound s 0 (map test_of state.steps ++ t ∷ []) = subst (λ ts. OneEachRound s 0 (ts ++ t ∷ [])) (sym tests) asked in
    let l = last-test sc book (opening_state sc) state.steps t s 0 0 each refl late in
    ap (λ o. option_map_or (same_list (tested_set sc book state.clock s)) o false) l.set
    ∙ (same-by-parts sc book l.was state.clock l.more component_labels s a there.0 there.1 (ap (λ (c : ClockState). c.on_air) (sym steps) ∙ l.now_is) h
    ∙ ap (λ n. not (touches_since book component_labels s (n + 1))) (sym l.seen))

-- ---- the labels follow the clock

pub after-clock : (sc : Scenario) (st : CoreState) (xs : List Step) → (after_steps sc st xs).clock ≡ clock_after sc st.clock xs
after-clock sc st [] = refl
after-clock sc st (x ∷ xs) = after-clock sc (settled sc st (test_of x) x.shown) xs

-- the same, for the clock after the steps
pub same-so-far : (sc : Scenario) (book : BookView) (state : CoreState) (before after : List ClockTest) (t : ClockTest) (start : Shown) (component_labels : ComponentLabelsView) → IsAuction sc book → clock_tests sc state.order ≡ before ++ t ∷ after → state.clock ≡ after_tests sc book (undecided_of state.steps) before (opening_state sc) → map test_of state.steps ≡ asked_from sc book (undecided_of state.steps) before (opening_state sc) → (after_steps sc (after_start sc state.order start) state.steps).clock ≡ state.clock → is_active state.clock t.station ≡ true → AreLabelsOf sc book state.clock component_labels → 2 ≤ t.round →
    is_same sc book state t ≡ not (touches_since book component_labels t.station (last_seen sc (opening_state sc) state.steps t.station 0 + 1))
same-so-far sc book state before after t start component_labels a split clock tests steps active h late =
    same-since sc book (undecided_of state.steps) before after state component_labels t a split tests clock
    (sym (after-clock sc (after_start sc state.order start) state.steps) ∙ steps)
    (off-air sc book (undecided_of state.steps) before state.clock a clock) active h late

number-kept : (k : ℕ) (xs ys : List OnAirSince) (z : ℕ) → list_any (λ (x : OnAirSince). x.station == z) xs ≡ true → number_from k (xs ++ ys) z ≡ number_from k xs z
number-kept k [] ys z on = cc
number-kept k (x ∷ xs) ys z on =
    (elim (x.station == z) as (λ b. (b || list_any (λ (x : OnAirSince). x.station == z) xs) ≡ true → (if b then k else number_from (suc k) (xs ++ ys) z) ≡ (if b then k else number_from (suc k) xs z)) [
      | true ↦ λ _. refl
      | false ↦ λ rest. number-kept (suc k) xs ys z rest
    ]) on

number-new : (k : ℕ) (xs : List OnAirSince) (y : OnAirSince) (z : ℕ) → list_any (λ (x : OnAirSince). x.station == z) xs ≡ false → y.station ≡ z → number_from k (xs ++ y ∷ []) z ≡ k + length xs
number-new k [] y z out is = cond-true (y.station == z) k 0 (eq-eqb y.station z is) ∙ omega arith
number-new k (x ∷ xs) y z out is =
    (elim (x.station == z) as (λ b. (b || list_any (λ (x : OnAirSince). x.station == z) xs) ≡ false → (if b then k else number_from (suc k) (xs ++ y ∷ []) z) ≡ k + suc (length xs)) [
      | true ↦ λ e. cc
      | false ↦ λ rest. number-new (suc k) xs y z rest is ∙ omega arith
    ]) out

some-label : (n : ℕ) → not (n + 1 == 0) ≡ true
some-label n = ap not (ne_eqb (n + 1) 0 (λ e. omega (arith, e)))

module _ (sc : Scenario) (book : BookView) (clock : ClockState) (t : ClockTest) (component_labels new : ComponentLabelsView) (known : Contains (facilities sc) t.station) (off : is_on_air clock t.station ≡ false) (h : AreLabelsOf sc book clock component_labels) (same : new.stations ≡ component_labels.stations) (labels : (z : ℕ) → label_of new z ≡ relabelled book (labelled component_labels) (label_of component_labels) t.station (length clock.on_air + 1) z) where
  abbrev u : ℕ
  u = t.station

  abbrev n : ℕ
  n = length clock.on_air + 1

  abbrev next : ClockState
  next = goes_on_air clock t

  on-next : (z : ℕ) → is_on_air next z ≡ (is_on_air clock z || ((u == z) || false))
  on-next z = list_any-append (λ (x : OnAirSince). x.station == z) clock.on_air (record { station = u; round = t.round } ∷ [])

  -- the label of a station on air is not 0
  touched-label : (l : ℕ) → touches book (labelled component_labels) (label_of component_labels) u l ≡ true → not (l == 0) ≡ true
  touched-label l touched =
      let (v, c, w) = list_any-gives (λ v. interferes book u v && (label_of component_labels v == l)) (labelled component_labels) touched in
      let is = eqb-true (label_of component_labels v) l (and_parts (interferes book u v) (label_of component_labels v == l) w).1 in
      subst (λ m. not (m == 0) ≡ true) is (Contains-from_filter (λ v. not (label_of component_labels v == 0)) component_labels.stations v c).1

  on-air-next : (z : ℕ) → Contains (facilities sc) z → not (label_of new z == 0) ≡ is_on_air next z
  on-air-next z there =
      ap (λ l. not (l == 0)) (labels z) ∙
      (elim (z == u) as (λ b. (z == u) ≡ b → not ((if b || touches book (labelled component_labels) (label_of component_labels) u (label_of component_labels z) then n else label_of component_labels z) == 0) ≡ is_on_air next z) [
        | true ↦ λ e. some-label (length clock.on_air) ∙ sym (on-next z ∙ or_right (is_on_air clock z) _ (or_left (u == z) false (eq-eqb u z (sym (eqb-true z u e)))))
        | false ↦ λ e.
            let other : (u == z) ≡ false = ne_eqb u z (λ k. both_ways (z == u) e (eq-eqb z u (sym k))) in
            let is : is_on_air next z ≡ is_on_air clock z = on-next z ∙ (ap (λ b. is_on_air clock z || (b || false)) other ∙ or_no (is_on_air clock z)) in
            (elim (touches book (labelled component_labels) (label_of component_labels) u (label_of component_labels z)) as (λ b. touches book (labelled component_labels) (label_of component_labels) u (label_of component_labels z) ≡ b → not ((if b then n else label_of component_labels z) == 0) ≡ is_on_air next z) [
              | true ↦ λ yes. some-label (length clock.on_air) ∙ sym (is ∙ (sym (h.on_air z there) ∙ touched-label (label_of component_labels z) yes))
              | false ↦ λ _. h.on_air z there ∙ sym is
            ]) refl
      ]) refl
    where
      or_no : (b : Bool) → (b || (false || false)) ≡ b
      or_no true = refl
      or_no false = refl

  with-one : IsWithOneMore (labelled component_labels) (labelled new) u
  with-one = record {
    each = λ z c.
        let w = Contains-from_filter (λ v. not (label_of component_labels v == 0)) component_labels.stations z c in
        let there : Contains (facilities sc) z = subst (λ xs. Contains xs z) h.stations w.0 in
        let on : is_on_air clock z ≡ true = sym (h.on_air z there) ∙ w.1 in
        Contains-filter (λ v. not (label_of new v == 0)) new.stations z (subst (λ xs. Contains xs z) (sym same) w.0) (on-air-next z there ∙ (on-next z ∙ or_left (is_on_air clock z) _ on));
    one = Contains-filter (λ v. not (label_of new v == 0)) new.stations u (subst (λ xs. Contains xs u) (sym (same ∙ h.stations)) known) (on-air-next u known ∙ (on-next u ∙ or_right (is_on_air clock u) _ (or_left (u == u) false (eq-eqb u u refl))));
    only = λ z c.
        let w = Contains-from_filter (λ v. not (label_of new v == 0)) new.stations z c in
        let there : Contains (facilities sc) z = subst (λ xs. Contains xs z) (same ∙ h.stations) w.0 in
        ⊎_elim
        (λ on. inl (Contains-filter (λ v. not (label_of component_labels v == 0)) component_labels.stations z (subst (λ xs. Contains xs z) (sym h.stations) there) (h.on_air z there ∙ on)))
        (λ k. inr (sym (eqb-true u z (or-false (u == z) k))))
        (or_cases (is_on_air clock z) ((u == z) || false) (sym (on-next z) ∙ (sym (on-air-next z there) ∙ w.1)));
    new = λ c.
        let w = Contains-from_filter (λ v. not (label_of component_labels v == 0)) component_labels.stations u c in
        both_ways (is_on_air clock u) off (sym (h.on_air u known) ∙ w.1);
  }
    where
      or-false : (b : Bool) → (b || false) ≡ true → b ≡ true
      or-false true e = refl
      or-false false e = cc

  -- the labels once a station goes on air are those of the clock's new state
  pub joined-parts : AreLabelsOf sc book next new
  joined-parts =
      let on : (z : ℕ) → Contains (labelled component_labels) z → is_on_air clock z ≡ true = λ z c.
      let w = Contains-from_filter (λ v. not (label_of component_labels v == 0)) component_labels.stations z c in
      sym (h.on_air z (subst (λ xs. Contains xs z) h.stations w.0)) ∙ w.1 in
      let are = relabelled-parts book (labelled component_labels) (number_on_air clock) (label_of component_labels) h.are (labelled new) u with-one n (number_on_air next)
      (λ z c. number-kept 1 clock.on_air (record { station = u; round = t.round } ∷ []) z (on z c))
      (number-new 1 clock.on_air (record { station = u; round = t.round }) u off refl ∙ omega arith)
      (λ z c. let low = h.most z in omega (arith, low)) in
      let path : relabelled book (labelled component_labels) (label_of component_labels) u n ≡ label_of new = λ i z. sym (labels z) i in
      record {
        stations = same ∙ h.stations;
        on_air = on-air-next;
        are = subst (λ (f : ℕ → ℕ). AreComponents book (labelled new) (number_on_air next) f) path are;
        most = λ z.
            let long = length-append clock.on_air (record { station = u; round = t.round } ∷ []) in
            let low = h.most z in
            let bound : relabelled book (labelled component_labels) (label_of component_labels) u n z ≤ length next.on_air =
            (elim ((z == u) || touches book (labelled component_labels) (label_of component_labels) u (label_of component_labels z)) as (λ b. (if b then n else label_of component_labels z) ≤ length next.on_air) [
              | true ↦ omega (arith, long)
              | false ↦ omega (arith, long, low)
            ]) in
            subst (λ l. l ≤ length next.on_air) (sym (labels z)) bound;
      }
