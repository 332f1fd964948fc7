-- Every station has one entry, no station is active at the end, and the stations on air fit together.
use Rattle.std.proofs.Common.{le_refl, ◌≡◌, ℕ, zero, suc, ◌+◌, ◌-◌, ◌≤◌, true, false, not, ◌||◌, cond, eqb, inl, inr, List, [], ◌∷◌, map, length, refl, sym, ap, ◌∙◌, subst, arith, Contains, add-one}
use Rattle.std.specs.List.{sum_by}
use Rattle.std.proofs.lemmas.List.Sums.{sum_by-cons, sum_by_push}
use Rattle.std.proofs.lemmas.List.Filters.{sum_by-filter_both}
use Rattle.std.proofs.lemmas.Bool.{true≢false, false≢true, eqb-true, eqb-false, eq-eqb, ne_eqb, or_cases, or_left, or_right, or_parts, and_parts, cond-true, cond-false}
use Rattle.std.proofs.lemmas.List.Elements.{Contains-append_left, Contains-append_right, Contains-push_cases}
use Rattle.pack_defs.specs.Lists.{is_in, without}
use Rattle.pack_defs.specs.Book.{BookView}
use Rattle.pack_defs.specs.Packing.{fits}
use Rattle.pack_defs.specs.declared.scenario.Scenario.{Scenario}
use Rattle.pack_defs.specs.Scenario.{StationsAscend, facilities}
use Rattle.pack_defs.specs.declared.order.Order.{Order}
use Rattle.pack_defs.specs.Prices.{falls, offer, declines, start_set, last_round}
use Rattle.pack_defs.specs.ClockRule.{ClockTest, OnAirSince, FrozenAt, ClockState, tests_of, bidders_in_order, clock_tests, opening_state, is_active, is_on_air, on_air_set, asked_set, goes_on_air, after_test, after_tests, clock_rule}
use Rattle.pack_defs.specs.StationEntries.{station_entry_count}
use Rattle.pack_defs.proofs.Members.{Contains-cons_cases, Contains-nil, Contains-map, Contains-filter, Contains-from_filter, Contains-from_map, is_in-from, is_in-gives, list_any-from, list_any-gives}
use Rattle.pack_defs.proofs.FitsLaws.{part_fits_test}
use Rattle.pack_defs.proofs.ClockSteps.{is_in-without, test_cases, run_inactive}
use Rattle.pack_defs.proofs.Rounds.{Apart, apart_from_increasing}
use Rattle.pack_defs.proofs.RoundOrderLemmas.{bidder-comes}

-- One if the number is s, otherwise zero.
abbrev pub one_at : ℕ → ℕ → ℕ
one_at s x = cond (eqb x s) 1 0

-- ---- counts

pub count_absent : (s : ℕ) (xs : List ℕ) → is_in xs s ≡ false → sum_by (one_at s) xs ≡ 0
count_absent s [] h = refl
count_absent s (x ∷ xs) h =
    let (here, later) = or_parts (eqb x s) (is_in xs s) h in
    let none : one_at s x ≡ 0 = cond-false (eqb x s) 1 0 here in
    omega (arith, sum_by-cons (one_at s) x xs, none, count_absent s xs later)

count_present : (s : ℕ) (xs : List ℕ) → is_in xs s ≡ true → 1 ≤ sum_by (one_at s) xs
count_present s [] h = absurd (false≢true h)
count_present s (x ∷ xs) h =
    elim (or_cases (eqb x s) (is_in xs s) h) [
      | inl here ↦ let one : one_at s x ≡ 1 = cond-true (eqb x s) 1 0 here in omega (arith, sum_by-cons (one_at s) x xs, one)
      | inr later ↦ omega (arith, sum_by-cons (one_at s) x xs, count_present s xs later)
    ]

count_once : (s : ℕ) (xs : List ℕ) → Apart xs → is_in xs s ≡ true → sum_by (one_at s) xs ≡ 1
count_once s [] apart h = absurd (false≢true h)
count_once s (x ∷ xs) apart h =
    (elim (eqb x s) as (λ b. eqb x s ≡ b → sum_by (one_at s) (x ∷ xs) ≡ 1) [
      | true ↦ λ here.
          let one : one_at s x ≡ 1 = cond-true (eqb x s) 1 0 here in
          let none = count_absent s xs (subst (λ z. is_in xs z ≡ false) (eqb-true x s here) apart.0) in
          omega (arith, sum_by-cons (one_at s) x xs, one, none)
      | false ↦ λ later.
          let none : one_at s x ≡ 0 = cond-false (eqb x s) 1 0 later in
          let rest : is_in xs s ≡ true = elim (or_cases (eqb x s) (is_in xs s) h) [ inl here ↦ absurd (false≢true (sym later ∙ here)) | inr there ↦ there ] in
          omega (arith, sum_by-cons (one_at s) x xs, none, count_once s xs apart.1 rest)
    ]) refl

count_without : (s t : ℕ) (xs : List ℕ) → (t ≡ s → ⊥) → sum_by (one_at s) (without xs t) ≡ sum_by (one_at s) xs
count_without s t [] other = refl
count_without s t (x ∷ xs) other =
    let rest = count_without s t xs other in
    (elim (eqb x t) as (λ b. eqb x t ≡ b → sum_by (one_at s) (cond (not b) (x ∷ without xs t) (without xs t)) ≡ sum_by (one_at s) (x ∷ xs)) [
      | true ↦ λ here.
          let none : one_at s x ≡ 0 = cond-false (eqb x s) 1 0 (ne_eqb x s (λ e. other (sym (eqb-true x t here) ∙ e))) in
          omega (arith, sum_by-cons (one_at s) x xs, none, rest)
      | false ↦ λ _. omega (arith, sum_by-cons (one_at s) x xs, sum_by-cons (one_at s) x (without xs t), rest)
    ]) refl

count_map : {X Y : Type 0} (f : Y → ℕ) (g : X → Y) (xs : List X) → sum_by f (map g xs) ≡ sum_by (λ x. f (g x)) xs
count_map f g [] = refl
count_map f g (x ∷ xs) = omega (arith, sum_by-cons f (g x) (map g xs), sum_by-cons (λ y. f (g y)) x xs, count_map f g xs)

-- ---- every station has one entry

opening_once : (sc : Scenario) (s : ℕ) → StationsAscend sc → is_in (facilities sc) s ≡ true → station_entry_count (opening_state sc) s ≡ 1
opening_once sc s ascending there =
    let split = sum_by-filter_both (λ t. declines sc t 0) (λ t. not (declines sc t 0)) (λ t. refl) (one_at s) (facilities sc) in
    let started = count_map (λ (x : OnAirSince). cond (eqb x.station s) 1 0) (λ t. record { station = t; round = 0 }) (start_set sc) in
    let once = count_once s (facilities sc) (apart_from_increasing (facilities sc) ascending) there in
    omega (arith, split, started, once)

module _ (book : BookView) (undecided : List ClockTest) where
  -- A station with at most one entry keeps its number of entries.
  same_after_test : (sc : Scenario) (st : ClockState) (t : ClockTest) (s : ℕ) → station_entry_count st s ≤ 1 → station_entry_count (after_test sc book undecided st t) s ≡ station_entry_count st s
  same_after_test sc st t s once =
      let moved : (e d : ℕ) → is_active st t.station ≡ true → e ≡ one_at s t.station → d ≡ sum_by (one_at s) (without st.active t.station) → e + d ≡ sum_by (one_at s) st.active = λ e d active ee dd.
      (elim (eqb t.station s) as (λ b. eqb t.station s ≡ b → e + d ≡ sum_by (one_at s) st.active) [
        | true ↦ λ same.
            let one : one_at s t.station ≡ 1 = cond-true (eqb t.station s) 1 0 same in
            let none : sum_by (one_at s) (without st.active t.station) ≡ 0 = count_absent s _ (subst (λ x. is_in (without st.active t.station) x ≡ false) (eqb-true t.station s same) (is_in-without st.active t.station)) in
            let there = count_present s st.active (subst (λ x. is_in st.active x ≡ true) (eqb-true t.station s same) active) in
            omega (arith, one, none, there, once, ee, dd)
        | false ↦ λ other.
            let none : one_at s t.station ≡ 0 = cond-false (eqb t.station s) 1 0 other in
            let same = count_without s t.station st.active (eqb-false t.station s other) in
            omega (arith, none, same, ee, dd)
      ]) refl in
      test_cases book undecided (λ z. station_entry_count z s ≡ station_entry_count st s) sc st t
      (λ _. refl)
      (λ active _. omega (arith, once, moved _ _ active refl refl, sum_by_push (λ (x : FrozenAt). cond (eqb x.station s) 1 0) st.frozen (record { station = t.station; round = t.round; price = offer sc t.station (t.round - 1) })))
      (λ active _ _. omega (arith, once, moved _ _ active refl refl, sum_by_push (λ (x : OnAirSince). cond (eqb x.station s) 1 0) st.on_air (record { station = t.station; round = t.round })))
      (λ _ _ _. refl)

  same_after_tests : (sc : Scenario) (ts : List ClockTest) (st : ClockState) (s : ℕ) → station_entry_count st s ≤ 1 → station_entry_count (after_tests sc book undecided ts st) s ≡ station_entry_count st s
  same_after_tests sc [] st s once = refl
  same_after_tests sc (t ∷ ts) st s once =
      let here = same_after_test sc st t s once in
      same_after_tests sc ts _ s (subst (λ n. n ≤ 1) (sym here) once) ∙ here

  -- ---- no station is left active

  last_test_settles : (sc : Scenario) (st : ClockState) (t : ClockTest) → t.round ≡ last_round sc → is_active (after_test sc book undecided st t) t.station ≡ false
  last_test_settles sc st t last =
      test_cases book undecided (λ z. is_active z t.station ≡ false) sc st t
      (λ idle. idle)
      (λ _ _. is_in-without st.active t.station)
      (λ _ _ _. is_in-without st.active t.station)
      (λ _ _ out. absurd (true≢false (sym (or_left _ (declines sc t.station t.round) (eq-eqb t.round (last_round sc) last)) ∙ out)))

  settled_after : (sc : Scenario) (ts : List ClockTest) (st : ClockState) (t : ClockTest) → Contains ts t → t.round ≡ last_round sc → is_active (after_tests sc book undecided ts st) t.station ≡ false
  settled_after sc [] st t h last = absurd (Contains-nil t h)
  settled_after sc (u ∷ ts) st t h last =
      elim (Contains-cons_cases u t ts h) [
        | inl e ↦ run_inactive book undecided sc ts _ t.station (subst (λ x. is_active (after_test sc book undecided st x) t.station ≡ false) (sym e) (last_test_settles sc st t last))
        | inr later ↦ settled_after sc ts _ t later last
      ]

  -- ---- the stations on air fit

  fits_after_test : (sc : Scenario) (st : ClockState) (t : ClockTest) → fits book (on_air_set sc st) ≡ true → fits book (on_air_set sc (after_test sc book undecided st t)) ≡ true
  fits_after_test sc st t before =
      test_cases book undecided (λ z. fits book (on_air_set sc z) ≡ true) sc st t
      (λ _. before)
      (λ _ _. before)
      (λ _ room _. part_fits_test book (asked_set sc st t.station) (on_air_set sc (goes_on_air st t)) (λ s h.
      let (there, on_air) = Contains-from_filter (λ f. is_on_air (goes_on_air st t) f) (facilities sc) s h in
      let (x, listed, is) = list_any-gives (λ (y : OnAirSince). eqb y.station s) (goes_on_air st t).on_air on_air in
      Contains-filter (λ f. is_on_air st f || (eqb f t.station)) (facilities sc) s there
      (elim (Contains-push_cases st.on_air _ x listed) [
        | inl old ↦ or_left _ _ (list_any-from (λ (y : OnAirSince). eqb y.station s) st.on_air x old is)
        | inr new ↦ or_right (is_on_air st s) _ (eq-eqb s t.station (sym (ap (λ (y : OnAirSince). y.station) new ∙ eqb-true x.station s is)))
      ]))
      (and_parts _ _ room).0)
      (λ _ _ _. before)

  fits_after_tests : (sc : Scenario) (ts : List ClockTest) (st : ClockState) → fits book (on_air_set sc st) ≡ true → fits book (on_air_set sc (after_tests sc book undecided ts st)) ≡ true
  fits_after_tests sc [] st before = before
  fits_after_tests sc (t ∷ ts) st before = fits_after_tests sc ts _ (fits_after_test sc st t before)

-- Every station of the scenario has one entry, after any tests.
pub each_once : (sc : Scenario) (book : BookView) (undecided tests : List ClockTest) (s : ℕ) → StationsAscend sc → Contains (facilities sc) s → station_entry_count (after_tests sc book undecided tests (opening_state sc)) s ≡ 1
each_once sc book undecided tests s ascending there =
    let once = opening_once sc s ascending (is_in-from (facilities sc) s there) in
    same_after_tests book undecided sc tests (opening_state sc) s (subst (λ n. n ≤ 1) (sym once) (le_refl 1)) ∙ once

-- A number that is no station of the scenario has no entry.
opening_never : (sc : Scenario) (s : ℕ) → is_in (facilities sc) s ≡ false → station_entry_count (opening_state sc) s ≡ 0
opening_never sc s absent =
    let split = sum_by-filter_both (λ t. declines sc t 0) (λ t. not (declines sc t 0)) (λ t. refl) (one_at s) (facilities sc) in
    let started = count_map (λ (x : OnAirSince). cond (eqb x.station s) 1 0) (λ t. record { station = t; round = 0 }) (start_set sc) in
    let none = count_absent s (facilities sc) absent in
    omega (arith, split, started, none)

pub never_there : (sc : Scenario) (book : BookView) (undecided tests : List ClockTest) (s : ℕ) → is_in (facilities sc) s ≡ false → station_entry_count (after_tests sc book undecided tests (opening_state sc)) s ≡ 0
never_there sc book undecided tests s absent =
    let none = opening_never sc s absent in
    same_after_tests book undecided sc tests (opening_state sc) s (omega (arith, none)) ∙ none

-- The tests of the last round have each station.
last_tested : (xs : List ℕ) (r n s : ℕ) → Contains xs s → Contains (tests_of xs r (suc n)) (record { round = r + n; station = s })
last_tested xs r zero s there =
    subst (λ k. Contains (tests_of xs r 1) (record { round = k; station = s })) (omega arith) (Contains-append_left _ [] _ (Contains-map (λ x. record { round = r; station = x }) xs s there))
last_tested xs r (suc n) s there =
    Contains-append_right _ _ _ (subst (λ k. Contains (tests_of xs (r + 1) (suc n)) (record { round = k; station = s })) (omega arith) (last_tested xs (r + 1) n s there))

-- After all tests no station is active.
pub none_active : (sc : Scenario) (book : BookView) (order : Order) (undecided : List ClockTest) (s : ℕ) → is_active (clock_rule sc book order undecided) s ≡ false
unfolding clock_rule
none_active sc book order undecided s =
    (elim (is_active (opening_state sc) s) as (λ b. is_active (opening_state sc) s ≡ b → is_active (after_tests sc book undecided (clock_tests sc order) (opening_state sc)) s ≡ false) [
      | true ↦ λ active.
          let n : ℕ = length (falls sc) in
          let tested : Contains (tests_of (bidders_in_order sc order) 1 (n + 1)) (record { round = 1 + n; station = s }) =
          subst (λ k. Contains (tests_of (bidders_in_order sc order) 1 k) (record { round = 1 + n; station = s })) (sym (add-one n)) (last_tested (bidders_in_order sc order) 1 n s (is_in-gives (bidders_in_order sc order) s (bidder-comes sc order s active))) in
          settled_after book undecided sc (clock_tests sc order) (opening_state sc) (record { round = 1 + n; station = s }) tested (omega arith)
      | false ↦ λ idle. run_inactive book undecided sc (clock_tests sc order) (opening_state sc) s idle
    ]) refl

-- If the start set fits, the stations on air fit after any tests.
pub on_air_fits : (sc : Scenario) (book : BookView) (undecided tests : List ClockTest) → fits book (start_set sc) ≡ true → fits book (on_air_set sc (after_tests sc book undecided tests (opening_state sc))) ≡ true
on_air_fits sc book undecided tests start =
    fits_after_tests book undecided sc tests (opening_state sc)
    (part_fits_test book (start_set sc) (on_air_set sc (opening_state sc)) (λ s h.
    let (there, on_air) = Contains-from_filter (λ f. is_on_air (opening_state sc) f) (facilities sc) s h in
    let (x, listed, is) = list_any-gives (λ (y : OnAirSince). eqb y.station s) (opening_state sc).on_air on_air in
    let (t, started, same) = Contains-from_map (λ u. record { station = u; round = 0 }) (start_set sc) x listed in
    subst (λ z. Contains (start_set sc) z) (ap (λ (y : OnAirSince). y.station) same ∙ eqb-true x.station s is) started) start)
