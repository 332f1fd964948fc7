-- The set that a test asks about, found from the stations on air.
use Rattle.std.proofs.Common.{◌≡◌, ◌∙◌, ℕ, true, ◌||◌, ◌==◌, inl, inr, List, refl, sym, ap, subst}
use Rattle.std.proofs.lemmas.Bool.{or_cases, or_left, or_right, eq-eqb, eqb-true}
use Rattle.pack_defs.specs.Book.{BookView}
use Rattle.pack_defs.specs.Components.{component}
use Rattle.pack_defs.specs.declared.scenario.Scenario.{Scenario}
use Rattle.pack_defs.specs.Scenario.{StationsAscend, facilities}
use Rattle.pack_defs.specs.ClockRule.{ClockState, asked_set, is_on_air, on_air_set}
use Rattle.pack_defs.specs.Lists.{is_in}
use Rattle.pack_defs.proofs.Words.{ascending-from, same-ascending}
use Rattle.pack_defs.proofs.Members.{is_in-from, is_in-gives}
use Rattle.pack_defs.proofs.Chains.{ascending-filter}
use Rattle.packing_graph.specs.Sets.{with_station}
use Rattle.packing_graph.proofs.SetLemmas.{with_station-ascending, with_station-gives, with_station-has, with_station-keeps}
use Rattle.auction_core.specs.declared.clock.StationStatus.{StationStatus}
use Rattle.auction_core.specs.Clock.{AreStatuses, on_air_by}
use Rattle.auction_core.specs.State.{tested_set}
use Rattle.auction_core.proofs.Answers.{filter-in, in-filter}
use Rattle.auction_core.proofs.ClockLemmas.{on_air_by-is}

-- The stations on air and the tested station are the stations that the test asks about.
with-station : (sc : Scenario) (st : ClockState) (s : ℕ) → StationsAscend sc → is_in (facilities sc) s ≡ true → with_station (on_air_set sc st) s ≡ asked_set sc st s
with-station sc st s ascend there =
    let rises = ascending-from (facilities sc) ascend in
    let on : List ℕ = on_air_set sc st in
    same-ascending (with_station on s) (asked_set sc st s)
    (with_station-ascending on s (ascending-filter (λ f. is_on_air st f) (facilities sc) rises))
    (ascending-filter (λ f. is_on_air st f || (f == s)) (facilities sc) rises)
    (λ z h. elim (with_station-gives on s z (is_in-gives (with_station on s) z h)) [
      | inl same ↦ subst (λ y. is_in (asked_set sc st s) y ≡ true) (sym same) (in-filter (λ f. is_on_air st f || (f == s)) (facilities sc) s there (or_right (is_on_air st s) (s == s) (eq-eqb s s refl)))
      | inr air ↦ let parts = filter-in (λ f. is_on_air st f) (facilities sc) z (is_in-from on z air) in in-filter (λ f. is_on_air st f || (f == s)) (facilities sc) z parts.0 (or_left (is_on_air st z) (z == s) parts.1)
    ])
    (λ z h. let parts = filter-in (λ f. is_on_air st f || (f == s)) (facilities sc) z h in elim (or_cases (is_on_air st z) (z == s) parts.1) [
      | inl air ↦ is_in-from (with_station on s) z (with_station-keeps on s z (is_in-gives on z (in-filter (λ f. is_on_air st f) (facilities sc) z parts.0 air)))
      | inr same ↦ subst (λ y. is_in (with_station on s) y ≡ true) (sym (eqb-true z s same)) (is_in-from (with_station on s) s (with_station-has on s))
    ])

-- The set found from the standings is the test's set.
pub found-set : (sc : Scenario) (book : BookView) (station_statuses : List StationStatus) (s : ℕ) (set : List ℕ) → StationsAscend sc → is_in (facilities sc) s ≡ true → set ≡ component book (with_station (on_air_by (facilities sc) station_statuses) s) s
    → (st : ClockState) → AreStatuses sc st station_statuses → set ≡ tested_set sc book st s
found-set sc book station_statuses s set ascend there found st are =
    found ∙ ap (λ on. component book (with_station on s) s) (on_air_by-is are) ∙ ap (λ all. component book all s) (with-station sc st s ascend there)
