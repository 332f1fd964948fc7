-- The numbers of stations on air, frozen and undecided, from the standings.
use Rattle.std.proofs.Common.{◌≡◌, ℕ, ◌+◌, Bool, true, false, cond, eqb, inl, inr, List, [], ◌∷◌, ◌++◌, codes, filter, Some, map, length, refl, sym, ap, ◌∙◌, subst, arith, Contains}
use Rattle.std.specs.List.{count_by, find, sum_by}
use Rattle.std.proofs.lemmas.Bool.{cond-true, cond-false, eqb-true, eq-eqb, ne_eqb, eqb-false, or_cases, or_parts, false≢true, true_from_ne_false}
use Rattle.std.proofs.lemmas.List.Sums.{sum_by-cons}
use Rattle.pack_defs.specs.Lists.{is_in}
use Rattle.pack_defs.specs.declared.order.Order.{Order}
use Rattle.pack_defs.specs.Book.{BookView}
use Rattle.pack_defs.specs.declared.scenario.Scenario.{Scenario}
use Rattle.pack_defs.specs.Scenario.{StationsAscend, facilities}
use Rattle.pack_defs.specs.ClockRule.{ClockTest, ClockState, FrozenAt, OnAirSince, after_tests, clock_rule, clock_tests, is_listed, opening_state}
use Rattle.pack_defs.specs.StationEntries.{station_entry_count}
use Rattle.pack_defs.proofs.Members.{Contains-from_filter, Contains-here, Contains-there, is_in-gives, list_any-from}
use Rattle.pack_defs.proofs.Rounds.{Apart, apart_from_increasing}
use Rattle.pack_defs.proofs.StationEntryLemmas.{never_there}
use Rattle.auction_core.specs.declared.clock.StationStatus.{StationStatus}
use Rattle.auction_core.specs.Clock.{AreStatuses, status_of, is_status_frozen, is_status_on_air}
use Rattle.result_text.specs.ResultText.{count_line, each_frozen_by, frozen_by, summary_text}
use Rattle.auction_core.proofs.ClockLemmas.{length-standings}
use Rattle.auction_core.proofs.Finds.{find_cases, is_in-here, is_in-later}

-- ---- sums over numbers

sum_by-agree : (f g : ℕ → ℕ) (xs : List ℕ) → ((x : ℕ) → is_in xs x ≡ true → f x ≡ g x) → sum_by f xs ≡ sum_by g xs
sum_by-agree f g [] same = refl
sum_by-agree f g (x ∷ xs) same =
    let rest = sum_by-agree f g xs (λ y there. same y (is_in-later x y xs there)) in
    let here = same x (is_in-here x xs) in
    omega (arith, sum_by-cons f x xs, sum_by-cons g x xs, here, rest)

sum_by-zero : (xs : List ℕ) → sum_by (λ (x : ℕ). 0) xs ≡ 0
sum_by-zero [] = refl
sum_by-zero (x ∷ xs) = sum_by-zero xs

sum_by-add : (f g : ℕ → ℕ) (xs : List ℕ) → sum_by (λ x. f x + g x) xs ≡ sum_by f xs + sum_by g xs
sum_by-add f g [] = refl
sum_by-add f g (x ∷ xs) = omega (arith, sum_by-cons (λ y. f y + g y) x xs, sum_by-cons f x xs, sum_by-cons g x xs, sum_by-add f g xs)

-- One if the numbers are equal, otherwise zero.
abbrev same_as : ℕ → ℕ → ℕ
same_as k s = cond (eqb k s) 1 0

sum_by-same_absent : (k : ℕ) (fs : List ℕ) → is_in fs k ≡ false → sum_by (same_as k) fs ≡ 0
sum_by-same_absent k [] absent = refl
sum_by-same_absent k (f ∷ fs) absent =
    let other : eqb f k ≡ false = (or_parts (eqb f k) (is_in fs k) absent).0 in
    let none : same_as k f ≡ 0 = cond-false (eqb k f) 1 0 (ne_eqb k f (λ e. eqb-false f k other (sym e))) in
    omega (arith, sum_by-cons (same_as k) f fs, none, sum_by-same_absent k fs (or_parts (eqb f k) (is_in fs k) absent).1)

sum_by-same : (k : ℕ) (fs : List ℕ) → Apart fs → is_in fs k ≡ true → sum_by (same_as k) fs ≡ 1
sum_by-same k [] apart there = absurd (false≢true there)
sum_by-same k (f ∷ fs) apart there =
    (elim (eqb f k) as (λ b. eqb f k ≡ b → sum_by (same_as k) (f ∷ fs) ≡ 1) [
      | true ↦ λ here.
          let same : f ≡ k = eqb-true f k here in
          let one : same_as k f ≡ 1 = cond-true (eqb k f) 1 0 (eq-eqb k f (sym same)) in
          let none = sum_by-same_absent k fs (subst (λ z. is_in fs z ≡ false) same apart.0) in
          omega (arith, sum_by-cons (same_as k) f fs, one, none)
      | false ↦ λ other.
          let none : same_as k f ≡ 0 = cond-false (eqb k f) 1 0 (ne_eqb k f (λ e. eqb-false f k other (sym e))) in
          let later : is_in fs k ≡ true = elim (or_cases (eqb f k) (is_in fs k) there) [ inl here ↦ absurd (false≢true (sym other ∙ here)) | inr more ↦ more ] in
          omega (arith, sum_by-cons (same_as k) f fs, none, sum_by-same k fs apart.1 later)
    ]) refl

-- If each entry has one of the numbers as its key, the entries are as many as those of each number added up.
sum-of_entries : {X : Type 0} (key : X → ℕ) (fs : List ℕ) (xs : List X) → Apart fs → ((x : X) → Contains xs x → is_in fs (key x) ≡ true) → sum_by (λ s. count_by (λ x. eqb (key x) s) xs) fs ≡ length xs
sum-of_entries key fs [] apart within = sum_by-zero fs
sum-of_entries key fs (x ∷ xs) apart within =
    let rest = sum-of_entries key fs xs apart (λ y there. within y (Contains-there x y xs there)) in
    let one = sum_by-same (key x) fs apart (within x (Contains-here x xs)) in
    let split = sum_by-agree (λ s. count_by (λ y. eqb (key y) s) (x ∷ xs)) (λ s. same_as (key x) s + count_by (λ y. eqb (key y) s) xs) fs (λ s _. sum_by-cons (λ y. cond (eqb (key y) s) 1 0) x xs) in
    omega (arith, split, sum_by-add (same_as (key x)) (λ s. count_by (λ y. eqb (key y) s) xs) fs, one, rest)

-- ---- the counts of a state

-- Whether a state's entries are of stations of the scenario.
record HasNoStranger (sc : Scenario) (st : ClockState) : Type 0 where
  on_air : (x : OnAirSince) → Contains st.on_air x → is_in (facilities sc) x.station ≡ true
  frozen : (x : FrozenAt) → Contains st.frozen x → is_in (facilities sc) x.station ≡ true

no-stranger : (sc : Scenario) (book : BookView) (undecided tests : List ClockTest) → HasNoStranger sc (after_tests sc book undecided tests (opening_state sc))
no-stranger sc book undecided tests =
    let st : ClockState = after_tests sc book undecided tests (opening_state sc) in
    record {
      on_air = λ x there. true_from_ne_false _ (λ absent.
          let none = never_there sc book undecided tests x.station absent in
          elim (find_cases (λ (y : OnAirSince). eqb y.station x.station) st.on_air) [
            | inl no_air ↦ false≢true (sym no_air.1 ∙ list_any-from (λ (y : OnAirSince). eqb y.station x.station) st.on_air x there (eq-eqb x.station x.station refl))
            | inr o ↦ absurd (omega (arith, none, o.4))
          ]);
      frozen = λ x there. true_from_ne_false _ (λ absent.
          let none = never_there sc book undecided tests x.station absent in
          elim (find_cases (λ (y : FrozenAt). eqb y.station x.station) st.frozen) [
            | inl no_frozen ↦ false≢true (sym no_frozen.1 ∙ list_any-from (λ (y : FrozenAt). eqb y.station x.station) st.frozen x there (eq-eqb x.station x.station refl))
            | inr f ↦ absurd (omega (arith, none, f.4))
          ]);
    }

-- A station with one entry has it on air exactly if its standing is on air; the same for a frozen one.
count_by-on_air : (st : ClockState) (s : ℕ) → station_entry_count st s ≡ 1 → count_by (λ (x : OnAirSince). eqb x.station s) st.on_air ≡ cond (is_status_on_air (status_of st s)) 1 0
count_by-on_air st s once =
    elim (find_cases (λ (x : FrozenAt). eqb x.station s) st.frozen) [
      | inr f ↦ rw f.1 (omega (arith, once, f.4))
      | inl no_frozen ↦ elim (find_cases (λ (x : OnAirSince). eqb x.station s) st.on_air) [
        | inr o ↦ rw (no_frozen.0, o.1) (omega (arith, once, o.4))
        | inl no_air ↦ rw (no_frozen.0, no_air.0) no_air.2
      ]
    ]

count_by-frozen : (st : ClockState) (s : ℕ) → station_entry_count st s ≡ 1 → count_by (λ (x : FrozenAt). eqb x.station s) st.frozen ≡ cond (is_status_frozen (status_of st s)) 1 0
count_by-frozen st s once =
    elim (find_cases (λ (x : FrozenAt). eqb x.station s) st.frozen) [
      | inr f ↦ rw f.1 (omega (arith, once, f.4))
      | inl no_frozen ↦ elim (find_cases (λ (x : OnAirSince). eqb x.station s) st.on_air) [
        | inr o ↦ rw (no_frozen.0, o.1) no_frozen.2
        | inl no_air ↦ rw (no_frozen.0, no_air.0) no_frozen.2
      ]
    ]

count_by-map : {Y : Type 0} (p : Y → Bool) (f : ℕ → Y) (xs : List ℕ) → count_by p (map f xs) ≡ sum_by (λ x. cond (p (f x)) 1 0) xs
count_by-map p f [] = refl
count_by-map p f (x ∷ xs) = omega (arith, sum_by-cons (λ y. cond (p y) 1 0) (f x) (map f xs), sum_by-cons (λ y. cond (p (f y)) 1 0) x xs, count_by-map p f xs)

-- The number on air is that of the standings.
on_air-count : {sc : Scenario} {st : ClockState} {v : List StationStatus} → StationsAscend sc → AreStatuses sc st v → HasNoStranger sc st → count_by is_status_on_air v ≡ length st.on_air
on_air-count {sc} {st} {v} ascend are own =
    ap (count_by is_status_on_air) are.each
    ∙ (count_by-map is_status_on_air (status_of st) (facilities sc)
    ∙ (sym (sum_by-agree _ _ (facilities sc) (λ s there. count_by-on_air st s (are.once s (is_in-gives (facilities sc) s there))))
    ∙ sum-of_entries (λ (x : OnAirSince). x.station) (facilities sc) st.on_air (apart_from_increasing (facilities sc) ascend) own.on_air))

-- The number frozen is that of the standings.
frozen-count : {sc : Scenario} {st : ClockState} {v : List StationStatus} → StationsAscend sc → AreStatuses sc st v → HasNoStranger sc st → count_by is_status_frozen v ≡ length st.frozen
frozen-count {sc} {st} {v} ascend are own =
    ap (count_by is_status_frozen) are.each
    ∙ (count_by-map is_status_frozen (status_of st) (facilities sc)
    ∙ (sym (sum_by-agree _ _ (facilities sc) (λ s there. count_by-frozen st s (are.once s (is_in-gives (facilities sc) s there))))
    ∙ sum-of_entries (λ (x : FrozenAt). x.station) (facilities sc) st.frozen (apart_from_increasing (facilities sc) ascend) own.frozen))

-- ---- the undecided stations

-- As many elements pass as a filter keeps.
count_by-length : {X : Type 0} (p : X → Bool) (xs : List X) → count_by p xs ≡ length (filter p xs)
count_by-length p [] = refl
count_by-length p (x ∷ xs) =
    let rest = count_by-length p xs in
    let split = sum_by-cons (λ y. cond (p y) 1 0) x xs in
    (elim (p x) as (λ b. p x ≡ b → count_by p (x ∷ xs) ≡ length (cond b (x ∷ filter p xs) (filter p xs))) [
      | true ↦ λ yes. let one : cond {A = ℕ} (p x) 1 0 ≡ 1 = cond-true (p x) 1 0 yes in omega (arith, split, one, rest)
      | false ↦ λ no. let none : cond {A = ℕ} (p x) 1 0 ≡ 0 = cond-false (p x) 1 0 no in omega (arith, split, none, rest)
    ]) refl

-- If no entry has the key, none is kept.
count_by-none : {X : Type 0} (q p : X → Bool) (xs : List X) → count_by q xs ≡ 0 → count_by q (filter p xs) ≡ 0
count_by-none q p [] none = refl
count_by-none q p (x ∷ xs) none =
    let split = sum_by-cons (λ y. cond (q y) 1 0) x xs in
    let rest = count_by-none q p xs (omega (arith, split, none)) in
    let here : cond {A = ℕ} (q x) 1 0 ≡ 0 = omega (arith, split, none) in
    elim (p x) as (λ b. count_by q (cond b (x ∷ filter p xs) (filter p xs)) ≡ 0) [
      | true ↦ omega (arith, sum_by-cons (λ y. cond (q y) 1 0) x (filter p xs), here, rest)
      | false ↦ rest
    ]

-- If exactly one entry has the key, it is kept exactly if it passes.
count_by-one : {X : Type 0} (q p : X → Bool) (xs : List X) (f : X) → find q xs ≡ Some f → count_by q xs ≡ 1 → count_by q (filter p xs) ≡ cond (p f) 1 0
count_by-one q p [] f found one = absurd (omega (arith, one))
count_by-one q p (x ∷ xs) f found one =
    let split = sum_by-cons (λ y. cond (q y) 1 0) x xs in
    (elim (q x) as (λ b. q x ≡ b → cond b (Some x) (find q xs) ≡ Some f → count_by q (cond (p x) (x ∷ filter p xs) (filter p xs)) ≡ cond (p f) 1 0) [
      | true ↦ λ here is.
          let same : x ≡ f = cc in
          let unit : cond {A = ℕ} (q x) 1 0 ≡ 1 = cond-true (q x) 1 0 here in
          let rest = count_by-none q p xs (omega (arith, split, one, unit)) in
          subst (λ z. count_by q (cond (p x) (x ∷ filter p xs) (filter p xs)) ≡ cond (p z) 1 0) same
          (elim (p x) as (λ b. count_by q (cond b (x ∷ filter p xs) (filter p xs)) ≡ cond b 1 0) [
            | true ↦ omega (arith, sum_by-cons (λ y. cond (q y) 1 0) x (filter p xs), unit, rest)
            | false ↦ rest
          ])
      | false ↦ λ other is.
          let is_zero : cond {A = ℕ} (q x) 1 0 ≡ 0 = cond-false (q x) 1 0 other in
          let rest = count_by-one q p xs f is (omega (arith, split, one, is_zero)) in
          elim (p x) as (λ b. count_by q (cond b (x ∷ filter p xs) (filter p xs)) ≡ cond (p f) 1 0) [
            | true ↦ omega (arith, sum_by-cons (λ y. cond (q y) 1 0) x (filter p xs), is_zero, rest)
            | false ↦ rest
          ]
    ]) refl found

-- Whether the test that froze the station is one of these.
abbrev is_of : List ClockTest → FrozenAt → Bool
is_of tests x = is_listed tests (record { round = x.round; station = x.station })

-- A station with one entry has it frozen by one of these tests exactly if its standing says so.
count_by-frozen_by : (tests : List ClockTest) (st : ClockState) (s : ℕ) → station_entry_count st s ≡ 1 → count_by (λ (x : FrozenAt). eqb x.station s) (filter (is_of tests) st.frozen) ≡ cond (frozen_by tests s (status_of st s)) 1 0
count_by-frozen_by tests st s once =
    elim (find_cases (λ (x : FrozenAt). eqb x.station s) st.frozen) [
      | inr f ↦
          let one : count_by (λ (x : FrozenAt). eqb x.station s) st.frozen ≡ 1 = omega (arith, once, f.4) in
          let left = count_by-one (λ (x : FrozenAt). eqb x.station s) (is_of tests) st.frozen f.0 f.1 one in
          rw f.1 (left ∙ ap (λ i. cond (is_listed tests (record { round = f.0.round; station = i })) 1 0) (eqb-true f.0.station s f.2))
      | inl no_frozen ↦
          let left = count_by-none (λ (x : FrozenAt). eqb x.station s) (is_of tests) st.frozen no_frozen.2 in
          elim (find_cases (λ (x : OnAirSince). eqb x.station s) st.on_air) [
            | inr o ↦ rw (no_frozen.0, o.1) left
            | inl no_air ↦ rw (no_frozen.0, no_air.0) left
          ]
    ]

count_by-each : (tests : List ClockTest) (st : ClockState) (fs : List ℕ) → count_by (λ (u : Bool). u) (each_frozen_by tests fs (map (status_of st) fs)) ≡ sum_by (λ s. cond (frozen_by tests s (status_of st s)) 1 0) fs
count_by-each tests st [] = refl
count_by-each tests st (f ∷ fs) =
    omega (arith, sum_by-cons (λ (u : Bool). cond u 1 0) (frozen_by tests f (status_of st f)) (each_frozen_by tests fs (map (status_of st) fs)), sum_by-cons (λ s. cond (frozen_by tests s (status_of st s)) 1 0) f fs, count_by-each tests st fs)

-- The number undecided is that of the entries frozen by one of these tests.
undecided-count : {sc : Scenario} {st : ClockState} {v : List StationStatus} (tests : List ClockTest) → StationsAscend sc → AreStatuses sc st v → HasNoStranger sc st → count_by (λ (u : Bool). u) (each_frozen_by tests (facilities sc) v) ≡ count_by (is_of tests) st.frozen
undecided-count {sc} {st} {v} tests ascend are own =
    ap (λ xs. count_by (λ (u : Bool). u) (each_frozen_by tests (facilities sc) xs)) are.each
    ∙ (count_by-each tests st (facilities sc)
    ∙ (sym (sum_by-agree _ _ (facilities sc) (λ s there. count_by-frozen_by tests st s (are.once s (is_in-gives (facilities sc) s there))))
    ∙ (sum-of_entries (λ (x : FrozenAt). x.station) (facilities sc) (filter (is_of tests) st.frozen) (apart_from_increasing (facilities sc) ascend) (λ x there. own.frozen x (Contains-from_filter (is_of tests) st.frozen x there).0)
    ∙ sym (count_by-length (is_of tests) st.frozen))))

-- ---- the summary

-- The summary's lines, from the standings, the undecided stations and the total.
summary-lines : {sc : Scenario} {st : ClockState} {v : List StationStatus} (tests : List ClockTest) (us : List Bool) (total : ℕ) → StationsAscend sc → AreStatuses sc st v → us ≡ each_frozen_by tests (facilities sc) v → HasNoStranger sc st → total ≡ sum_by (λ x. x.price) st.frozen →
    count_line (codes "stations") (length v) ++ count_line (codes "on-air") (count_by is_status_on_air v) ++ count_line (codes "frozen") (count_by is_status_frozen v) ++ count_line (codes "undecided") (count_by (λ u. u) us) ++ count_line (codes "total") total ≡ summary_text sc st tests
unfolding summary_text
summary-lines {sc} {st} {v} tests us total ascend are marks own paid =
    rw (marks, length-standings are, on_air-count ascend are own, frozen-count ascend are own, undecided-count tests ascend are own, paid) refl

-- The same at the end of the clock rule.
pub rule-summary : {sc : Scenario} {v : List StationStatus} (book : BookView) (order : Order) (tests : List ClockTest) (us : List Bool) (total : ℕ) → StationsAscend sc → AreStatuses sc (clock_rule sc book order tests) v → us ≡ each_frozen_by tests (facilities sc) v → total ≡ sum_by (λ x. x.price) (clock_rule sc book order tests).frozen →
    count_line (codes "stations") (length v) ++ count_line (codes "on-air") (count_by is_status_on_air v) ++ count_line (codes "frozen") (count_by is_status_frozen v) ++ count_line (codes "undecided") (count_by (λ u. u) us) ++ count_line (codes "total") total ≡ summary_text sc (clock_rule sc book order tests) tests
unfolding clock_rule
rule-summary {sc} {v} book order tests us total ascend are marks paid = summary-lines tests us total ascend are marks (no-stranger sc book tests (clock_tests sc order)) paid
