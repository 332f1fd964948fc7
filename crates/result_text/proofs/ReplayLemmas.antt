-- The standings and the undecided stations after another step of a record.
use Rattle.std.proofs.Common.{◌≡◌, ◌∙◌, ℕ, zero, suc, ◌+◌, ◌<◌, ◌≤◌, ◌==◌, true, false, if◌then◌else◌, List, [], ◌∷◌, Option, Some, None, find, map, take, length, get_or, set, replicate, refl, sym, ap, subst, arith}
use Rattle.std.proofs.lemmas.Bool.{true≢false}
use Rattle.std.proofs.lemmas.List.{length-map, take_all}
use Rattle.pack_defs.specs.Lists.{is_in}
use Rattle.pack_defs.specs.declared.scenario.Scenario.{Scenario}
use Rattle.pack_defs.specs.declared.station.Station.{Station}
use Rattle.pack_defs.specs.Scenario.{IsWithinLimits, StationsAscend, facilities}
use Rattle.pack_defs.specs.Book.{BookView, IsInOrder}
use Rattle.pack_defs.specs.ClockRule.{ClockTest, ClockState, OnAirSince, clock_rule, exits, is_listed, opening_state}
use Rattle.pack_defs.proofs.Members.{is_in-from}
use Rattle.freeze_ledger.specs.Ledger.{price_of}
use Rattle.auction_core.specs.declared.clock.StationStatus.{StationStatus}
use Rattle.auction_core.specs.declared.clock.StationStatus.TheVariants.{Active, OnAir}
use Rattle.auction_core.specs.declared.record.Record.{Record}
use Rattle.auction_core.specs.declared.record.Shown.{Shown}
use Rattle.auction_core.specs.declared.record.Shown.TheVariants.{Empty, Fits, Same, NoChannel, Refuted, Outside, Undecided}
use Rattle.auction_core.specs.declared.record.Step.{Step}
use Rattle.auction_core.specs.declared.record.Ending.TheVariants.{Done}
use Rattle.auction_core.specs.State.{shows_room, test_of}
use Rattle.auction_core.specs.Backed.{IsBacked, after_start, after_steps, is_undecided, undecided_of}
use Rattle.auction_core.specs.Clock.{AreStatuses, ClockView, IsClockOf, answered_clock, answered_status, status_from, status_of}
use Rattle.auction_core.specs.Rule.{IsAuction}
use Rattle.auction_core.proofs.ClockLemmas.{active-is, is_active_at, length-standings}
use Rattle.auction_core.proofs.Paid.{active-unpaid, answer-clock}
use Rattle.result_text.specs.ResultText.{each_frozen_by, frozen_by}
use Rattle.result_text.proofs.StepLemmas.{IsNext, backed-clock}

-- A scenario within the limits and a book in order are an auction.
pub auction-of : (sc : Scenario) (book : BookView) → IsWithinLimits sc → IsInOrder book → IsAuction sc book
auction-of sc book limits in_order = record { stations = limits.ascend; in_order = in_order; workers = limits.some_worker }

-- ---- the standings

-- The station of the next step has a standing.
pub next-there : {sc : Scenario} {rec : Record} {steps : List Step} {k : ℕ} {x : Step} (stations : List Station) → IsNext sc rec steps k x → stations ≡ sc.stations → is_in (map (λ y. y.id) stations) x.station ≡ false → ⊥
next-there {sc} {rec} {steps} {k} {x} stations next same absent =
    true≢false (sym (is_in-from (facilities sc) x.station next.station) ∙ subst (λ (ys : List Station). is_in (map (λ y. y.id) ys) x.station ≡ false) same absent)

-- The station is active there.
pub next-active : {sc : Scenario} {rec : Record} {steps : List Step} {k : ℕ} {x : Step} {v : List StationStatus} (i : ℕ) → IsNext sc rec steps k x → AreStatuses sc (after_steps sc (after_start sc rec.order rec.start) (take k steps)).clock v → i < length sc.stations → get_or (facilities sc) i 0 ≡ x.station → get_or v i Active ≡ Active
next-active {sc} {rec} {steps} {k} {x} {v} i next are h at = active-is (get_or v i Active) (sym (is_active_at i x.station Active are h at) ∙ next.active)

-- The station is not paid.
pub next-unpaid : {sc : Scenario} {rec : Record} {steps : List Step} {k : ℕ} {x : Step} {v : ClockView} (i : ℕ) → IsNext sc rec steps k x → IsClockOf sc (after_steps sc (after_start sc rec.order rec.start) (take k steps)).clock v → i < length sc.stations → get_or (facilities sc) i 0 ≡ x.station → price_of (get_or (facilities sc) i 0) v.paid ≡ None
next-unpaid {sc} {rec} {steps} {k} {x} {v} i next is h at = ap (λ f. price_of f v.paid) at ∙ active-unpaid i x.station is h at next.active

-- Only this station moves.
pub next-clock : {sc : Scenario} {rec : Record} {steps : List Step} {k : ℕ} {x : Step} {v : ClockView} (i : ℕ) → IsNext sc rec steps k x → StationsAscend sc → IsClockOf sc (after_steps sc (after_start sc rec.order rec.start) (take k steps)).clock v → i < length sc.stations → get_or (facilities sc) i 0 ≡ x.station →
    IsClockOf sc (after_steps sc (after_start sc rec.order rec.start) (take (k + 1) steps)).clock (answered_clock sc (test_of x) i (shows_room x.shown) v)
next-clock {sc} {rec} {steps} {k} {x} {v} i next ascend are h at =
    subst (λ p. IsClockOf sc p.clock (answered_clock sc (test_of x) i (shows_room x.shown) v)) (sym next.moves)
    (answer-clock i (test_of x) (shows_room x.shown) ascend are h at next.active)

-- After a backed record's last step the clock is the rule's.
pub last-clock : {sc : Scenario} {v : ClockView} (book : BookView) (rec : Record) (steps : List Step) (k : ℕ) → IsAuction sc book → IsBacked sc book rec.order rec → rec.ending ≡ Done → steps ≡ rec.steps → length steps ≤ k → IsClockOf sc (after_steps sc (after_start sc rec.order rec.start) (take k steps)).clock v → IsClockOf sc (clock_rule sc book rec.order (undecided_of rec.steps)) v
last-clock {sc} {v} book rec steps k a backed done same h are =
    subst (λ z. IsClockOf sc z v) (ap (λ ys. (after_steps sc (after_start sc rec.order rec.start) ys).clock) (take_all k steps h ∙ same) ∙ backed-clock sc book rec a backed done) are

-- ---- the undecided stations

-- The list has an element for each station.
pub length-each : (tests : List ClockTest) (fs : List ℕ) (xs : List StationStatus) → length xs ≡ length fs → length (each_frozen_by tests fs xs) ≡ length fs
length-each tests [] xs same = refl
length-each tests (f ∷ fs) [] same = absurd (omega arith)
length-each tests (f ∷ fs) (x ∷ xs) same = ap suc (length-each tests fs xs (omega arith))

pub length-frozen : {sc : Scenario} {st : ClockState} {v : List StationStatus} (tests : List ClockTest) → AreStatuses sc st v → length (each_frozen_by tests (facilities sc) v) ≡ length sc.stations
length-frozen {sc} {st} {v} tests are =
    let n = length-map sc.stations (λ (x : Station). x.id) in
    length-each tests (facilities sc) v (length-standings are ∙ sym n) ∙ n

-- One station changes its standing.
each-set : (tests : List ClockTest) (fs : List ℕ) (xs : List StationStatus) (i : ℕ) (y : StationStatus) → i < length fs → each_frozen_by tests fs (set xs i y) ≡ set (each_frozen_by tests fs xs) i (frozen_by tests (get_or fs i 0) y)
each-set tests [] xs i y h = absurd (omega arith)
each-set tests (f ∷ fs) [] zero y h = refl
each-set tests (f ∷ fs) [] (suc i) y h = refl
each-set tests (f ∷ fs) (x ∷ xs) zero y h = refl
each-set tests (f ∷ fs) (x ∷ xs) (suc i) y h = ap (λ us. frozen_by tests f x ∷ us) (each-set tests fs xs i y (omega arith))

-- If a test fits, its station is not frozen.
fits-unfrozen : (sc : Scenario) (tests : List ClockTest) (t : ClockTest) → frozen_by tests t.station (answered_status sc t true) ≡ false
fits-unfrozen sc tests t = elim (exits sc t) as (λ b. frozen_by tests t.station (if b then OnAir t.round else Active) ≡ false) [ true ↦ refl | false ↦ refl ]

-- A step's station is frozen by one of these tests exactly if the step is undecided.
answered-frozen : (sc : Scenario) (tests : List ClockTest) (t : ClockTest) (shown : Shown) → is_listed tests t ≡ is_undecided shown → frozen_by tests t.station (answered_status sc t (shows_room shown)) ≡ is_undecided shown
answered-frozen sc tests t Empty h = fits-unfrozen sc tests t
answered-frozen sc tests t (Fits delta) h = fits-unfrozen sc tests t
answered-frozen sc tests t Same h = fits-unfrozen sc tests t
answered-frozen sc tests t (NoChannel s) h = h
answered-frozen sc tests t (Refuted worker how) h = h
answered-frozen sc tests t (Outside proof) h = h
answered-frozen sc tests t (Undecided receipts) h = h

-- The list after another step.
pub next-frozen : {sc : Scenario} {rec : Record} {steps : List Step} {k : ℕ} {x : Step} (v : List StationStatus) (i : ℕ) → IsNext sc rec steps k x → i < length sc.stations → get_or (facilities sc) i 0 ≡ x.station →
    set (each_frozen_by (undecided_of rec.steps) (facilities sc) v) i (is_undecided x.shown) ≡ each_frozen_by (undecided_of rec.steps) (facilities sc) (set v i (answered_status sc (test_of x) (shows_room x.shown)))
next-frozen {sc} {rec} {steps} {k} {x} v i next h at =
    let U : List ClockTest = undecided_of rec.steps in
    let y : StationStatus = answered_status sc (test_of x) (shows_room x.shown) in
    let n = length-map sc.stations (λ (z : Station). z.id) in
    sym (each-set U (facilities sc) v i y (omega (arith, h, n))
    ∙ ap (set (each_frozen_by U (facilities sc) v) i) (ap (λ f. frozen_by U f y) at ∙ answered-frozen sc U (test_of x) x.shown next.listed))

-- At the opening no station is frozen.
none-frozen : (tests : List ClockTest) (st : ClockState) (fs : List ℕ) → st.frozen ≡ [] → replicate (length fs) false ≡ each_frozen_by tests fs (map (status_of st) fs)
none-frozen tests st [] none = refl
none-frozen tests st (f ∷ fs) none =
    let go : (o : Option OnAirSince) → frozen_by tests f (status_from None o) ≡ false = λ o. elim o as (λ o. frozen_by tests f (status_from None o) ≡ false) [ None ↦ refl | Some x ↦ refl ] in
    let here : frozen_by tests f (status_of st f) ≡ false = rw none (go (find (λ (x : OnAirSince). x.station == f) st.on_air)) in
    ap (λ us. false ∷ us) (none-frozen tests st fs none) ∙ ap (λ b. b ∷ each_frozen_by tests fs (map (status_of st) fs)) (sym here)

pub opening-frozen : {sc : Scenario} {v : List StationStatus} (tests : List ClockTest) (n : ℕ) → n ≡ length sc.stations → AreStatuses sc (opening_state sc) v → replicate n false ≡ each_frozen_by tests (facilities sc) v
opening-frozen {sc} {v} tests n count are =
    ap (λ m. replicate m false) (count ∙ sym (length-map sc.stations (λ (x : Station). x.id)))
    ∙ (none-frozen tests (opening_state sc) (facilities sc) refl ∙ ap (each_frozen_by tests (facilities sc)) (sym are.each))
