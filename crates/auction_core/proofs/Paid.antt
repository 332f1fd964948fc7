-- What the frozen stations are paid, by the clock's ledger, and that the ledger has room for it. For `clock`.
use Rattle.std.proofs.Common.{◌≡◌, ◌∙◌, ℕ, zero, suc, ◌+◌, ◌-◌, ◌<◌, ◌≤◌, ◌^◌, Bool, true, false, cond, eqb, inl, inr, List, [], ◌∷◌, ◌++◌, length, set, get_or, All, None, map, refl, sym, ap, ap₂, subst, arith, option_map}
use Rattle.std.specs.List.{count_by, find}
use Rattle.std.proofs.lemmas.Bool.{eqb-true, eq-eqb}
use Rattle.std.proofs.Math.Nat.{mul-le-mul}
use Rattle.std.proofs.lemmas.List.Sums.{count_by-le-length, sum_by-set, sum_by_push}
use Rattle.pack_defs.specs.declared.scenario.Scenario.{Scenario}
use Rattle.pack_defs.specs.declared.station.Station.{Station}
use Rattle.pack_defs.specs.Scenario.{IsStationWithinLimits, IsWithinLimits, StationsAscend, facilities, volume_in}
use Rattle.pack_defs.specs.Prices.{falls, offer, prices, prices_from}
use Rattle.pack_defs.specs.ClockRule.{ClockState, ClockTest, FrozenAt, after_answer, exits, freezes, goes_on_air, is_active, opening_state}
use Rattle.freeze_ledger.specs.Ledger.{LedgerView, price_of, sum_paid, with_price}
use Rattle.freeze_ledger.proofs.LedgerLemmas.{price-other, price-own, sum-with}
use Rattle.auction_core.specs.declared.clock.StationStatus.{StationStatus}
use Rattle.auction_core.specs.declared.clock.StationStatus.TheVariants.{Active, OnAir, Frozen}
use Rattle.auction_core.specs.Clock.{ArePaid, AreStatuses, ClockView, HasRoomToPay, IsClockOf, answered_clock, most_paid, opening_status, is_status_active, is_status_frozen}
use Rattle.auction_core.proofs.ClockLemmas.{answer-standings, idle_counts, once_at, opening-standings}
use Rattle.auction_core.proofs.Finds.{find-push_new, find_cases}
use Rattle.pack_defs.proofs.Words.{find-push_other}

-- ---- the greatest price

price_at_most : (c : ℕ) (ds : List ℕ) (r : ℕ) → get_or (prices_from c ds) r 0 ≤ c
price_at_most c [] zero = omega arith
price_at_most c [] (suc r) = omega arith
price_at_most c (d ∷ ds) zero = omega arith
price_at_most c (d ∷ ds) (suc r) = let rest = price_at_most (c - d) ds r in omega (arith, rest)

volume_at_most : (xs : List Station) (s : ℕ) → All IsStationWithinLimits xs → volume_in xs s ≤ 1000000
volume_at_most [] s h = omega arith
volume_at_most (x ∷ xs) s h =
    elim (eqb x.id s) as (λ b. cond b x.volume (volume_in xs s) ≤ 1000000) [
      | true ↦ let own : IsStationWithinLimits x = h 0 x (omega arith) in own.volume
      | false ↦ volume_at_most xs s (λ k d l. h (suc k) d (omega arith))
    ]

-- an offer is at most 10^12 cents
pub offer_at_most : (sc : Scenario) (s r : ℕ) → IsWithinLimits sc → offer sc s r ≤ most_paid
offer_at_most sc s r h =
    let price = price_at_most sc.opening (falls sc) r in
    let volume = volume_at_most sc.stations s h.each_station in
    let opening : get_or (prices sc) r 0 ≤ 1000000 = omega (arith, price, h.opening) in
    mul-le-mul opening volume

-- ---- what is paid

-- an active station is not paid
pub active-unpaid : {sc : Scenario} {st : ClockState} {c : ClockView} (i s : ℕ) → IsClockOf sc st c → i < length sc.stations → get_or (facilities sc) i 0 ≡ s → is_active st s ≡ true → price_of s c.paid ≡ None
active-unpaid {sc} {st} {c} i s h within at active =
    let none = idle_counts st s (once_at i s h.station_statuses within at) active in
    h.paid.each s ∙ (elim (find_cases (λ (x : FrozenAt). eqb x.station s) st.frozen) [
      | inl no_frozen ↦ ap (option_map (λ (x : FrozenAt). x.price)) no_frozen.0
      | inr f ↦ absurd (omega (arith, none.0, f.4))
    ])

-- payments with one more entry at the end
price-push : (frozen : List FrozenAt) (new : FrozenAt) (paid : List (ℕ × ℕ)) (s : ℕ) → count_by (λ (x : FrozenAt). eqb x.station new.station) frozen ≡ 0 →
    price_of s paid ≡ option_map (λ (x : FrozenAt). x.price) (find (λ (x : FrozenAt). eqb x.station s) frozen) →
    price_of s (with_price new.station new.price paid) ≡ option_map (λ (x : FrozenAt). x.price) (find (λ (x : FrozenAt). eqb x.station s) (frozen ++ new ∷ []))
price-push frozen new paid s none h =
    (elim (eqb new.station s) as (λ b. eqb new.station s ≡ b → price_of s (with_price new.station new.price paid) ≡ option_map (λ (x : FrozenAt). x.price) (find (λ (x : FrozenAt). eqb x.station s) (frozen ++ new ∷ []))) [
      | true ↦ λ same. let e : new.station ≡ s = eqb-true new.station s same in
          subst (λ z. price_of z (with_price new.station new.price paid) ≡ option_map (λ (x : FrozenAt). x.price) (find (λ (x : FrozenAt). eqb x.station z) (frozen ++ new ∷ []))) e
          (price-own new.station new.price paid
          ∙ sym (ap (option_map (λ (x : FrozenAt). x.price)) (find-push_new (λ (x : FrozenAt). eqb x.station new.station) frozen new none (eq-eqb new.station new.station refl))))
      | false ↦ λ other. price-other new.station new.price s paid other
          ∙ (h ∙ sym (ap (option_map (λ (x : FrozenAt). x.price)) (find-push_other (λ (x : FrozenAt). eqb x.station s) frozen new other)))
    ]) refl

-- one more station is frozen
freezes-paid : (sc : Scenario) (st : ClockState) (t : ClockTest) (paid : List (ℕ × ℕ)) → ArePaid st paid → count_by (λ (x : FrozenAt). eqb x.station t.station) st.frozen ≡ 0 → ArePaid (freezes sc st t) (with_price t.station (offer sc t.station (t.round - 1)) paid)
freezes-paid sc st t paid h none =
    let price : ℕ = offer sc t.station (t.round - 1) in
    let new : FrozenAt = record { station = t.station; round = t.round; price = price } in
    record {
      each = λ s. price-push st.frozen new paid s none (h.each s);
      sum = sum-with t.station price paid ∙ (ap (λ n. n + price) h.sum ∙ sym (sum_by_push (λ (x : FrozenAt). x.price) st.frozen new));
    }

-- a station that goes on air is paid nothing
airs-paid : (sc : Scenario) (st : ClockState) (t : ClockTest) (paid : List (ℕ × ℕ)) → ArePaid st paid → ArePaid (after_answer sc st t true) paid
airs-paid sc st t paid h = elim (exits sc t) as (λ b. ArePaid (cond b (goes_on_air st t) st) paid) [
  | true ↦ record { each = h.each; sum = h.sum }
  | false ↦ h
]

-- the clock after an answer is that of the state after it
pub answer-clock : {sc : Scenario} {st : ClockState} {c : ClockView} (i : ℕ) (t : ClockTest) (fits : Bool) → StationsAscend sc → IsClockOf sc st c → i < length sc.stations → get_or (facilities sc) i 0 ≡ t.station → is_active st t.station ≡ true →
    IsClockOf sc (after_answer sc st t fits) (answered_clock sc t i fits c)
answer-clock {sc} {st} {c} i t true ascend h within at active = record {
  station_statuses = answer-standings i t true ascend h.station_statuses within at active;
  paid = airs-paid sc st t c.paid h.paid;
}
answer-clock {sc} {st} {c} i t false ascend h within at active = record {
  station_statuses = answer-standings i t false ascend h.station_statuses within at active;
  paid = freezes-paid sc st t c.paid h.paid (idle_counts st t.station (once_at i t.station h.station_statuses within at) active).0;
}

-- before the first round nothing is paid
pub opening-clock : (sc : Scenario) (station_statuses : List StationStatus) → AreStatuses sc (opening_state sc) station_statuses → IsClockOf sc (opening_state sc) (record { station_statuses = station_statuses; paid = [] })
opening-clock sc station_statuses are = record { station_statuses = are; paid = record { each = λ s. refl; sum = refl } }

pub opening-made : (sc : Scenario) (xs : List StationStatus) (paid : List (ℕ × ℕ)) → xs ≡ map (opening_status sc) sc.stations → paid ≡ [] → StationsAscend sc → IsClockOf sc (opening_state sc) (record { station_statuses = xs; paid = paid })
opening-made sc xs paid same none ascend =
    let made : List StationStatus → List (ℕ × ℕ) → ClockView = λ ys es. record { station_statuses = ys; paid = es } in
    subst (IsClockOf sc (opening_state sc)) (sym (ap₂ made same none)) (opening-clock sc (map (opening_status sc) sc.stations) (opening-standings sc ascend))

-- a clock view with these standings and this payment added
abbrev pub paying : List StationStatus → List (ℕ × ℕ) → ℕ → ℕ → ClockView
paying xs paid s price = record { station_statuses = xs; paid = with_price s price paid }

pub frozen-view : (xs : List StationStatus) (paid : List (ℕ × ℕ)) {s t p q : ℕ} → s ≡ t → p ≡ q → paying xs paid s p ≡ paying xs paid t q
frozen-view xs paid e f = ap₂ (paying xs paid) e f

-- ---- the room

-- an active station needs room
pub room-some : (xs : List StationStatus) (i : ℕ) → i < length xs → get_or xs i Active ≡ Active → 1 ≤ count_by is_status_active xs
room-some xs i within active =
    let moved = sum_by-set (λ x. cond (is_status_active x) 1 0) xs i (OnAir 0) Active within in
    let own : cond {A = ℕ} (is_status_active (get_or xs i Active)) 1 0 ≡ 1 = ap (λ x. cond (is_status_active x) 1 0) active in
    omega (arith, moved, own)

-- replacing an active standing leaves one active station fewer, and one frozen station more if the new standing is frozen
set-counts : (xs : List StationStatus) (i : ℕ) (y : StationStatus) → i < length xs → get_or xs i Active ≡ Active → is_status_active y ≡ false → (count_by is_status_active (set xs i y) + 1 ≡ count_by is_status_active xs) × (count_by is_status_frozen (set xs i y) ≡ count_by is_status_frozen xs + cond (is_status_frozen y) 1 0)
set-counts xs i y within active other =
    let asked = sum_by-set (λ x. cond (is_status_active x) 1 0) xs i y Active within in
    let frozen = sum_by-set (λ x. cond (is_status_frozen x) 1 0) xs i y Active within in
    let one : cond {A = ℕ} (is_status_active (get_or xs i Active)) 1 0 ≡ 1 = ap (λ x. cond (is_status_active x) 1 0) active in
    let none : cond {A = ℕ} (is_status_frozen (get_or xs i Active)) 1 0 ≡ 0 = ap (λ x. cond (is_status_frozen x) 1 0) active in
    let off : cond {A = ℕ} (is_status_active y) 1 0 ≡ 0 = ap (λ b. cond b 1 0) other in
    (omega (arith, asked, one, off), omega (arith, frozen, none))

-- an active station goes on air
pub air-room : (xs : List StationStatus) (l : LedgerView) (i r : ℕ) → HasRoomToPay xs l → i < length xs → get_or xs i Active ≡ Active → HasRoomToPay (set xs i (OnAir r)) l
air-room xs l i r h within active =
    let counts = set-counts xs i (OnAir r) within active refl in
    let room = h.room in
    let bound = h.bound in
    record { room = omega (arith, room, counts.0); bound = omega (arith, bound, counts.1) }

-- an active station is frozen
pub freeze-room : (xs : List StationStatus) (old new : LedgerView) (i r s price : ℕ) → HasRoomToPay xs old → i < length xs → get_or xs i Active ≡ Active → price ≤ most_paid → new.paid ≡ with_price s price old.paid → new.spare + 1 ≡ old.spare → HasRoomToPay (set xs i (Frozen r)) new
freeze-room xs old new i r s price h within active small paid spare =
    let counts = set-counts xs i (Frozen r) within active refl in
    let room = h.room in
    let bound = h.bound in
    let sum : sum_paid new.paid ≡ sum_paid old.paid + price = ap sum_paid paid ∙ sum-with s price old.paid in
    record { room = omega (arith, room, counts.0, spare); bound = omega (arith, bound, counts.1, sum, small) }

-- one more price stays within 64 bits
pub price-fits : (xs : List StationStatus) (l : LedgerView) (price : ℕ) → HasRoomToPay xs l → length xs ≤ 8192 → price ≤ most_paid → sum_paid l.paid + price < 2 ^ 64
price-fits xs l price h few small =
    let bound = h.bound in
    let most = count_by-le-length is_status_frozen xs in
    omega (arith, bound, most, few, small)

-- at the opening
pub opening-room : (xs : List StationStatus) (l : LedgerView) (n : ℕ) → length xs ≤ n → l.paid ≡ [] → n ≤ l.spare → HasRoomToPay xs l
opening-room xs l n many none room =
    let most = count_by-le-length is_status_active xs in
    let sum : sum_paid l.paid ≡ 0 = ap sum_paid none in
    record { room = omega (arith, most, many, room); bound = omega (arith, sum) }
