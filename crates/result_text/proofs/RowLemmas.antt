-- The rows of the result, from the standings.
use Rattle.std.proofs.Common.{◌≡◌, ℕ, zero, suc, ◌+◌, ◌<◌, ◌%◌, ◌^◌, Bool, false, if◌then◌else◌, eqb, inl, inr, List, [], ◌∷◌, ◌++◌, Some, option_map, unwrap_or, map, take, length, get_or, refl, sym, ap, ◌∙◌, arith, add-one, append_assoc, decimal, ne_eqb}
use Rattle.std.specs.List.{filter_map, cons_option, find, flat_map, list_any}
use Rattle.std.proofs.lemmas.Bool.{eqb-true}
use Rattle.std.proofs.lemmas.Fmt.{decimal_by_steps}
use Rattle.std.proofs.lemmas.List.{append-nil, get_or-map, length-map}
use Rattle.std.proofs.lemmas.List.Folds.{list_any-append}
use Rattle.csv.specs.Writing.{default_writer, fields_text, is_blank, needs_byte, needs_quotes, row_text}
use Rattle.pack_defs.specs.declared.scenario.Scenario.{Scenario}
use Rattle.pack_defs.specs.declared.station.Station.{Station}
use Rattle.pack_defs.specs.Scenario.{facilities}
use Rattle.pack_defs.specs.ClockRule.{ClockState, ClockTest, FrozenAt, OnAirSince, is_listed}
use Rattle.pack_defs.specs.ResultRows.{Frozen, ResultRow, Undecided, on_air_row, row_of, result_rows}
use Rattle.freeze_ledger.specs.Ledger.{price_of}
use Rattle.auction_core.specs.declared.clock.StationStatus.{StationStatus}
use Rattle.auction_core.specs.Clock.{ClockView, IsClockOf, status_of}
use Rattle.auction_core.proofs.Finds.{find_cases}
use Rattle.result_text.specs.ChannelsText.{channel_line}
use Rattle.result_text.specs.ResultText.{each_frozen_by, frozen_by, header_line, price_in, result_text, row_fields, row_line, station_line, station_lines}

-- ---- a row has no quotes

digit-plain : (d : ℕ) → d < 10 → needs_byte default_writer (48 + d) ≡ false
digit-plain d h =
    rw (ne_eqb (48 + d) 44 (λ e. absurd (omega arith)), ne_eqb (48 + d) 34 (λ e. absurd (omega arith)), ne_eqb (48 + d) 13 (λ e. absurd (omega arith)), ne_eqb (48 + d) 10 (λ e. absurd (omega arith))) refl

decimal-plain : (n : ℕ) → n < 2 ^ 64 → needs_quotes default_writer (decimal n) ≡ false
decimal-plain n h = decimal_by_steps (λ _ ds. list_any (needs_byte default_writer) ds ≡ false)
    (λ d small. rw digit-plain refl)
    (λ m ds big before. rw (list_any-append (needs_byte default_writer) ds ((48 + m % 10) ∷ []), before) (let r : m % 10 < 10 = omega arith in rw (digit-plain (m % 10) r) refl))
    n h

pub row-plain : (facility round price : ℕ) (word : List ℕ) → facility < 2 ^ 64 → round < 2 ^ 64 → price < 2 ^ 64 → needs_quotes default_writer word ≡ false →
    row_text default_writer (decimal facility ∷ word ∷ decimal round ∷ decimal price ∷ []) ≡ row_fields facility word round price
unfolding fields_text is_blank
row-plain facility round price word f r p plain =
    rw (decimal-plain facility f, plain, decimal-plain round r, decimal-plain price p) (simp (append-nil, append_assoc))

pub entry-plain : (facility channel : ℕ) → facility < 2 ^ 64 → channel < 2 ^ 64 → row_text default_writer (decimal facility ∷ decimal channel ∷ []) ≡ channel_line (facility, channel)
unfolding fields_text is_blank
entry-plain facility channel f c = rw (decimal-plain facility f, decimal-plain channel c) (simp (append-nil, append_assoc))

-- ---- the lines, from the standings

-- The row of a frozen station with this number.
frozen_of : List ClockTest → FrozenAt → ℕ → ResultRow
frozen_of tests x s = record {
  facility = s;
  outcome = if is_listed tests (record { round = x.round; station = s }) then Undecided else Frozen;
  round = x.round;
  price = x.price;
}

-- A station's row depends on its standing, on whether an undecided test froze it, and on its price if it is frozen.
row_of-line : (tests : List ClockTest) (st : ClockState) (s price : ℕ) (rest : List ResultRow) → ((x : FrozenAt) → find (λ (y : FrozenAt). eqb y.station s) st.frozen ≡ Some x → price ≡ x.price) → flat_map row_line (cons_option (row_of tests st s) rest) ≡ station_line s (status_of st s) (frozen_by tests s (status_of st s)) price ++ flat_map row_line rest
unfolding frozen_of
row_of-line tests st s price rest own =
    elim (find_cases (λ (x : FrozenAt). eqb x.station s) st.frozen) [
      | inr f ↦ rw (f.1, own f.0 f.1) (ap (λ i. row_line (frozen_of tests f.0 i) ++ flat_map row_line rest) (eqb-true f.0.station s f.2))
      | inl no_frozen ↦ elim (find_cases (λ (x : OnAirSince). eqb x.station s) st.on_air) [
        | inr o ↦ rw (no_frozen.0, o.1) (ap (λ i. row_line (on_air_row (record { station = i; round = o.0.round })) ++ flat_map row_line rest) (eqb-true o.0.station s o.2))
        | inl no_air ↦ rw (no_frozen.0, no_air.0) refl
      ]
    ]

rows-lines : (tests : List ClockTest) (st : ClockState) (paid : List (ℕ × ℕ)) (fs : List ℕ) → ((s : ℕ) → price_of s paid ≡ option_map (λ (x : FrozenAt). x.price) (find (λ (x : FrozenAt). eqb x.station s) st.frozen)) → flat_map row_line (filter_map (row_of tests st) fs) ≡ station_lines paid fs (map (status_of st) fs) (each_frozen_by tests fs (map (status_of st) fs))
rows-lines tests st paid [] each = refl
rows-lines tests st paid (f ∷ fs) each =
    row_of-line tests st f (price_in paid f) (filter_map (row_of tests st) fs) (λ x found. ap (λ o. unwrap_or o 0) (each f ∙ ap (option_map (λ (y : FrozenAt). y.price)) found))
    ∙ ap (λ ls. station_line f (status_of st f) (frozen_by tests f (status_of st f)) (price_in paid f) ++ ls) (rows-lines tests st paid fs each)

-- The result, from the standings.
result_text-standings : {sc : Scenario} {st : ClockState} {v : ClockView} (tests : List ClockTest) → IsClockOf sc st v → header_line ++ station_lines v.paid (facilities sc) v.station_statuses (each_frozen_by tests (facilities sc) v.station_statuses) ≡ result_text sc st tests
unfolding result_text result_rows
result_text-standings {sc} {st} {v} tests is =
    ap (λ ls. header_line ++ ls) (ap (λ xs. station_lines v.paid (facilities sc) xs (each_frozen_by tests (facilities sc) xs)) is.station_statuses.each ∙ sym (rows-lines tests st v.paid (facilities sc) is.paid.each))

-- The lines with another station.
standing_lines_more : (paid : List (ℕ × ℕ)) (fs : List ℕ) (xs : List StationStatus) (us : List Bool) (i : ℕ) (d : StationStatus) (u : Bool) → i < length fs → i < length xs → i < length us → station_lines paid (take (i + 1) fs) (take (i + 1) xs) (take (i + 1) us) ≡ station_lines paid (take i fs) (take i xs) (take i us) ++ station_line (get_or fs i 0) (get_or xs i d) (get_or us i u) (price_in paid (get_or fs i 0))
standing_lines_more paid fs xs us i d u h k m = rw add-one (next fs xs us i h k m)
  where
    next : (fs : List ℕ) (xs : List StationStatus) (us : List Bool) (i : ℕ) → i < length fs → i < length xs → i < length us → station_lines paid (take (suc i) fs) (take (suc i) xs) (take (suc i) us) ≡ station_lines paid (take i fs) (take i xs) (take i us) ++ station_line (get_or fs i 0) (get_or xs i d) (get_or us i u) (price_in paid (get_or fs i 0))
    next [] xs us i h k m = absurd (omega arith)
    next (f ∷ fs) [] us i h k m = absurd (omega arith)
    next (f ∷ fs) (x ∷ xs) [] i h k m = absurd (omega arith)
    next (f ∷ fs) (x ∷ xs) (w ∷ us) zero h k m = append-nil (station_line f x w (price_in paid f))
    next (f ∷ fs) (x ∷ xs) (w ∷ us) (suc i) h k m =
        ap (λ ls. station_line f x w (price_in paid f) ++ ls) (next fs xs us i (omega arith) (omega arith) (omega arith)) ∙ sym (append_assoc (station_line f x w (price_in paid f)) (station_lines paid (take i fs) (take i xs) (take i us)) (station_line (get_or fs i 0) (get_or xs i d) (get_or us i u) (price_in paid (get_or fs i 0))))

-- The rows so far, and another one.
pub rows_more : (paid : List (ℕ × ℕ)) (stations : List Station) (xs : List StationStatus) (us : List Bool) (i : ℕ) (a : Station) (d : StationStatus) (u : Bool) → i < length stations → length xs ≡ length stations → length us ≡ length stations →
    (header_line ++ station_lines paid (take i (map (λ x. x.id) stations)) (take i xs) (take i us)) ++ station_line (get_or stations i a).id (get_or xs i d) (get_or us i u) (price_in paid (get_or stations i a).id) ≡ header_line ++ station_lines paid (take (i + 1) (map (λ x. x.id) stations)) (take (i + 1) xs) (take (i + 1) us)
rows_more paid stations xs us i a d u h same also =
    let ids : List ℕ = map (λ (x : Station). x.id) stations in
    let n = length-map stations (λ (x : Station). x.id) in
    append_assoc header_line (station_lines paid (take i ids) (take i xs) (take i us)) (station_line (get_or stations i a).id (get_or xs i d) (get_or us i u) (price_in paid (get_or stations i a).id))
    ∙ ap (λ ls. header_line ++ ls)
    (ap (λ f. station_lines paid (take i ids) (take i xs) (take i us) ++ station_line f (get_or xs i d) (get_or us i u) (price_in paid f)) (sym (get_or-map (λ (x : Station). x.id) stations i a 0 h))
    ∙ sym (standing_lines_more paid ids xs us i d u (omega (arith, n)) (omega (arith, same)) (omega (arith, also))))

-- The complete result.
pub rows-text : {sc : Scenario} {st : ClockState} {v : ClockView} (tests : List ClockTest) (stations : List Station) (us : List Bool) → IsClockOf sc st v → stations ≡ sc.stations → us ≡ each_frozen_by tests (facilities sc) v.station_statuses → header_line ++ station_lines v.paid (map (λ x. x.id) stations) v.station_statuses us ≡ result_text sc st tests
rows-text {sc} {st} {v} tests stations us is same marks =
    ap (λ (ys : List Station). header_line ++ station_lines v.paid (map (λ x. x.id) ys) v.station_statuses us) same
    ∙ (ap (λ zs. header_line ++ station_lines v.paid (facilities sc) v.station_statuses zs) marks ∙ result_text-standings tests is)
