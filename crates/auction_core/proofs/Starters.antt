-- The components of the stations that are on air from the start, one station at a time. For `clock_run::put_all_on_air`.
use Rattle.std.proofs.Common.{◌≡◌, ◌∙◌, ℕ, zero, suc, ◌+◌, ◌<◌, ◌≤◌, Bool, true, false, not, cond, ◌||◌, ◌==◌, Contains, List, [], ◌∷◌, ◌++◌, length, map, filter, take, get_or, inl, inr, refl, sym, ap, subst, arith, append-nil, length-append}
use Rattle.std.proofs.lemmas.Bool.{both_ways, cond-false, cond-true, false_from_ne_true, ne_eqb, true≢false, cases_Bool}
use Rattle.std.proofs.lemmas.List.{length-map, map-append, take_all}
use Rattle.std.proofs.lemmas.List.Kept.{AllPairs-from_increasing}
use Rattle.std.proofs.lemmas.List.Elements.{Contains-get_or}
use Rattle.pack_defs.specs.declared.scenario.Scenario.{Scenario}
use Rattle.pack_defs.specs.declared.station.Station.{Station}
use Rattle.pack_defs.specs.Book.{BookView}
use Rattle.pack_defs.specs.Lists.{is_in}
use Rattle.pack_defs.specs.Scenario.{StationsAscend, facilities}
use Rattle.pack_defs.specs.Prices.{declines, start_set}
use Rattle.pack_defs.specs.ClockRule.{ClockState, ClockTest, OnAirSince, goes_on_air, is_on_air, opening_state}
use Rattle.pack_defs.proofs.Members.{Contains-from_filter, is_in-from}
use Rattle.pack_defs.proofs.Words.{list_any-map}
use Rattle.pack_defs.proofs.OneRow.{start_entry}
use Rattle.auction_core.specs.declared.clock.StationStatus.{StationStatus}
use Rattle.auction_core.specs.Clock.{AreStatuses, is_status_on_air}
use Rattle.auction_core.specs.TestHistory.{TestHistoryView}
use Rattle.auction_core.specs.declared.clock.StationStatus.TheVariants.{Active}
use Rattle.auction_core.specs.ComponentLabels.{AreLabelsOf, ComponentLabelsView, label_of, labelled, relabelled}
use Rattle.auction_core.proofs.Answers.{filter-in, in-filter}
use Rattle.auction_core.proofs.ClockLemmas.{is_on_air_at}
use Rattle.auction_core.proofs.Since.{joined-parts}
use Rattle.auction_core.proofs.StartLemmas.{starts-more}

-- those of the first n stations that start on air
abbrev starters : Scenario → ℕ → List ℕ
starters sc i = filter (λ s. declines sc s 0) (take i (facilities sc))

-- the opening state with only these stations on air
abbrev pub aired : Scenario → ℕ → ClockState
aired sc i = record (opening_state sc) { on_air = map start_entry (starters sc i) }

-- the labels depend on the list of stations on air only
parts-same : (sc : Scenario) (book : BookView) (a b : ClockState) (component_labels : ComponentLabelsView) → a.on_air ≡ b.on_air → AreLabelsOf sc book a component_labels → AreLabelsOf sc book b component_labels
parts-same sc book a b component_labels e h =
    let at : AreLabelsOf sc book (record b { on_air = a.on_air }) component_labels = record { stations = h.stations; on_air = h.on_air; are = h.are; most = h.most } in
    let done = subst (λ o. AreLabelsOf sc book (record b { on_air = o }) component_labels) e at in
    record { stations = done.stations; on_air = done.on_air; are = done.are; most = done.most }

-- no station is on air if no station has a label
pub aired-none : (sc : Scenario) (book : BookView) (component_labels : ComponentLabelsView) → component_labels.stations ≡ facilities sc → ((z : ℕ) → label_of component_labels z ≡ 0) → AreLabelsOf sc book (aired sc 0) component_labels
aired-none sc book component_labels e none = record {
  stations = e;
  on_air = λ z c. ap (λ n. not (n == 0)) (none z);
  are = record {
    same = λ v w c d. absurd (off v c);
    own = λ v c. absurd (off v c);
    last = λ v c. absurd (off v c);
  };
  most = λ z. let is_zero = none z in omega (arith, is_zero);
}
  where
    off : (v : ℕ) → Contains (labelled component_labels) v → ⊥
    off v c = true≢false (sym (Contains-from_filter (λ v. not (label_of component_labels v == 0)) component_labels.stations v c).1 ∙ ap (λ n. not (n == 0)) (none v))

-- ---- whether the station at a place starts on air

member-passes : (p : ℕ → Bool) (xs : List ℕ) (z : ℕ) → is_in xs z ≡ true → is_in (filter p xs) z ≡ p z
member-passes p xs z there =
    (elim (p z) as (λ b. p z ≡ b → is_in (filter p xs) z ≡ b) [
      | true ↦ λ e. in-filter p xs z there e
      | false ↦ λ e. false_from_ne_true (is_in (filter p xs) z) (λ yes. both_ways (p z) e (filter-in p xs z yes).1)
    ]) refl

known-at : (sc : Scenario) (i : ℕ) → i < length sc.stations → is_in (facilities sc) (get_or (facilities sc) i 0) ≡ true
known-at sc i inside = is_in-from (facilities sc) (get_or (facilities sc) i 0) (Contains-get_or (facilities sc) i 0 (rw (length-map sc.stations (λ (x : Station). x.id)) inside))

starts-by : (sc : Scenario) (station_statuses : List StationStatus) (i : ℕ) (d : StationStatus) → AreStatuses sc (opening_state sc) station_statuses → i < length sc.stations → declines sc (get_or (facilities sc) i 0) 0 ≡ is_status_on_air (get_or station_statuses i d)
starts-by sc station_statuses i d are inside =
    let f : ℕ = get_or (facilities sc) i 0 in
    sym (list_any-map (λ (x : OnAirSince). x.station == f) start_entry (start_set sc) ∙ member-passes (λ s. declines sc s 0) (facilities sc) f (known-at sc i inside))
    ∙ is_on_air_at i f d are inside refl

-- a number of a list that rises is not among those before it
not-before : (xs : List ℕ) (i : ℕ) → ((j k : ℕ) → j < k → k < length xs → get_or xs j 0 < get_or xs k 0) → i < length xs → is_in (take i xs) (get_or xs i 0) ≡ false
not-before [] i up inside = absurd (omega (arith, inside))
not-before (x ∷ xs) zero up inside = refl
not-before (x ∷ xs) (suc i) up inside =
    let less = up 0 (suc i) (omega arith) inside in
    ap (λ b. b || is_in (take i xs) (get_or xs i 0)) (ne_eqb x (get_or xs i 0) (λ e. absurd (omega (arith, less, e))))
    ∙ not-before xs i (λ j k l m. up (suc j) (suc k) (omega (arith, l)) (omega (arith, m))) (omega (arith, inside))

-- ---- one more station

-- a station that does not start on air
pub passed-list : (sc : Scenario) (station_statuses : List StationStatus) (i : ℕ) (d : StationStatus) → AreStatuses sc (opening_state sc) station_statuses → i < length sc.stations → is_status_on_air (get_or station_statuses i d) ≡ false → (aired sc (i + 1)).on_air ≡ (aired sc i).on_air
passed-list sc station_statuses i d are inside off =
    ap (map start_entry) (starts-more sc i inside ∙ (ap (λ z. starters sc i ++ z) (cond-false _ _ _ (starts-by sc station_statuses i d are inside ∙ off)) ∙ append-nil (starters sc i)))

pub aired-passed : (sc : Scenario) (book : BookView) (station_statuses : List StationStatus) (i : ℕ) (d : StationStatus) (component_labels : ComponentLabelsView) → AreStatuses sc (opening_state sc) station_statuses → i < length sc.stations → is_status_on_air (get_or station_statuses i d) ≡ false → AreLabelsOf sc book (aired sc i) component_labels → AreLabelsOf sc book (aired sc (i + 1)) component_labels
aired-passed sc book station_statuses i d component_labels are inside off h = parts-same sc book (aired sc i) (aired sc (i + 1)) component_labels (sym (passed-list sc station_statuses i d are inside off)) h

-- a station that starts on air
pub taken-list : (sc : Scenario) (station_statuses : List StationStatus) (i : ℕ) (d : StationStatus) → AreStatuses sc (opening_state sc) station_statuses → i < length sc.stations → is_status_on_air (get_or station_statuses i d) ≡ true → (aired sc (i + 1)).on_air ≡ (aired sc i).on_air ++ start_entry (get_or (facilities sc) i 0) ∷ []
taken-list sc station_statuses i d are inside on =
    ap (map start_entry) (starts-more sc i inside ∙ ap (λ z. starters sc i ++ z) (cond-true _ _ _ (starts-by sc station_statuses i d are inside ∙ on)))
    ∙ map-append start_entry (starters sc i) (get_or (facilities sc) i 0 ∷ [])

pub aired-taken : (sc : Scenario) (book : BookView) (station_statuses : List StationStatus) (i : ℕ) (d : StationStatus) (old new : ComponentLabelsView) (n : ℕ) → StationsAscend sc → AreStatuses sc (opening_state sc) station_statuses → i < length sc.stations → is_status_on_air (get_or station_statuses i d) ≡ true →
    AreLabelsOf sc book (aired sc i) old → n ≡ length (aired sc i).on_air → new.stations ≡ old.stations → ((z : ℕ) → label_of new z ≡ relabelled book (labelled old) (label_of old) (get_or (facilities sc) i 0) (n + 1) z) → AreLabelsOf sc book (aired sc (i + 1)) new
aired-taken sc book station_statuses i d old new n ascend are inside on h count same labels =
    let f : ℕ = get_or (facilities sc) i 0 in
    let t : ClockTest = record { round = 0; station = f } in
    let all = length-map sc.stations (λ (x : Station). x.id) in
    let within : i < length (facilities sc) = rw all inside in
    let off : is_on_air (aired sc i) f ≡ false =
    list_any-map (λ (x : OnAirSince). x.station == f) start_entry (starters sc i)
    ∙ false_from_ne_true (is_in (starters sc i) f) (λ yes. both_ways (is_in (take i (facilities sc)) f) (not-before (facilities sc) i (λ j k l m. AllPairs-from_increasing (facilities sc) ascend j k 0 l m) within) (filter-in (λ s. declines sc s 0) (take i (facilities sc)) f yes).0) in
    let joined = joined-parts sc book (aired sc i) t old new (Contains-get_or (facilities sc) i 0 within) off h same (subst (λ m. (z : ℕ) → label_of new z ≡ relabelled book (labelled old) (label_of old) f (m + 1) z) count labels) in
    parts-same sc book (goes_on_air (aired sc i) t) (aired sc (i + 1)) new (sym (taken-list sc station_statuses i d are inside on)) joined

-- one more station, whether or not it starts on air
pub aired-more : (sc : Scenario) (book : BookView) (station_statuses : List StationStatus) (i : ℕ) (old new : TestHistoryView) → StationsAscend sc → AreStatuses sc (opening_state sc) station_statuses → i < length sc.stations →
    AreLabelsOf sc book (aired sc i) old.component_labels → old.on_air ≡ length (aired sc i).on_air → new.component_labels.stations ≡ old.component_labels.stations →
    (is_status_on_air (get_or station_statuses i Active) ≡ true → (new.on_air ≡ old.on_air + 1) × ((z : ℕ) → label_of new.component_labels z ≡ relabelled book (labelled old.component_labels) (label_of old.component_labels) (get_or (facilities sc) i 0) (old.on_air + 1) z)) →
    (is_status_on_air (get_or station_statuses i Active) ≡ false → (new.on_air ≡ old.on_air) × (new.component_labels ≡ old.component_labels)) →
    AreLabelsOf sc book (aired sc (i + 1)) new.component_labels × (new.on_air ≡ length (aired sc (i + 1)).on_air)
aired-more sc book station_statuses i old new ascend are inside h count same went stood =
    elim (cases_Bool (is_status_on_air (get_or station_statuses i Active))) [
      | inl on ↦
          let w = went on in
          let list = taken-list sc station_statuses i Active are inside on in (
            aired-taken sc book station_statuses i Active old.component_labels new.component_labels old.on_air ascend are inside on h count same w.1,
            w.0 ∙ (ap (λ n. n + 1) count ∙ (sym (length-append (aired sc i).on_air (start_entry (get_or (facilities sc) i 0) ∷ [])) ∙ sym (ap length list))),
          )
      | inr off ↦
          let st = stood off in (
            subst (AreLabelsOf sc book (aired sc (i + 1))) (sym st.1) (aired-passed sc book station_statuses i Active old.component_labels are inside off h),
            st.0 ∙ (count ∙ sym (ap length (passed-list sc station_statuses i Active are inside off))),
          )
    ]

-- ---- all stations

pub aired-all : (sc : Scenario) → (aired sc (length sc.stations)).on_air ≡ (opening_state sc).on_air
aired-all sc = ap (λ xs. map start_entry (filter (λ s. declines sc s 0) xs)) (take_all (length sc.stations) (facilities sc) (let all = length-map sc.stations (λ (x : Station). x.id) in omega (arith, all)))

pub aired-opening : (sc : Scenario) (book : BookView) (component_labels : ComponentLabelsView) → AreLabelsOf sc book (aired sc (length sc.stations)) component_labels → AreLabelsOf sc book (opening_state sc) component_labels
aired-opening sc book component_labels h = parts-same sc book (aired sc (length sc.stations)) (opening_state sc) component_labels (aired-all sc) h

-- there are at most as many as stations
pub aired-few : (sc : Scenario) (i : ℕ) → length (aired sc i).on_air ≤ i
aired-few sc i = let kept = kept_at_most (λ s. declines sc s 0) (take i (facilities sc)) in let first = first_at_most i (facilities sc) in let same = length-map (starters sc i) start_entry in omega (arith, kept, first, same)
  where
    kept_at_most : (p : ℕ → Bool) (xs : List ℕ) → length (filter p xs) ≤ length xs
    kept_at_most p [] = omega arith
    kept_at_most p (x ∷ xs) =
        let rest = kept_at_most p xs in
        elim (p x) as (λ b. length (cond b (x ∷ filter p xs) (filter p xs)) ≤ length (x ∷ xs)) [
          | true ↦ omega (arith, rest)
          | false ↦ omega (arith, rest)
        ]

    first_at_most : (i : ℕ) (xs : List ℕ) → length (take i xs) ≤ i
    first_at_most zero xs = omega arith
    first_at_most (suc i) [] = omega arith
    first_at_most (suc i) (x ∷ xs) = let rest = first_at_most i xs in omega (arith, rest)
