-- The prices and places of a setup, and what they are made of. For `setup`.
use Rattle.std.proofs.Common.{◌≡◌, ℕ, ◌<◌, ◌≤◌, List, length, get_or, sym, ap, ◌∙◌, subst, arith}
use Rattle.std.proofs.lemmas.List.{get_or-map, length-map}
use Rattle.pack_defs.specs.declared.station.Station.{Station}
use Rattle.pack_defs.specs.Scenario.{facilities}
use Rattle.pack_defs.specs.Prices.{last_round}
use Rattle.pack_defs.specs.ClockRule.{round_order}
use Rattle.pack_defs.proofs.Falls.{rounds-within}
use Rattle.pack_defs.proofs.PriceLaws.{prices_rounds}
use Rattle.pack_defs.proofs.RoundOrderLemmas.{turns-length}
use Rattle.auction_core.specs.Setup.{IsSetup, SetupView}

-- there are as many prices as rounds; round 0 stands in for the last round, which has no price
pub rounds-are : (s : SetupView) (schedule places : List ℕ) → IsSetup s schedule places → length schedule ≡ last_round s.scenario
rounds-are s schedule places h = ap length h.offers ∙ prices_rounds s.scenario

pub rounds-few : (s : SetupView) (schedule places : List ℕ) → IsSetup s schedule places → length schedule ≤ 1001
rounds-few s schedule places h =
    let few = rounds-within s.scenario h.sound.auction.limits in
    let are = rounds-are s schedule places h in
    omega (arith, few, are)

-- there is a place for each station
pub as-many : (s : SetupView) (schedule places : List ℕ) → IsSetup s schedule places → length places ≡ length s.scenario.stations
as-many s schedule places h =
    let own = length-map places (λ i. get_or (facilities s.scenario) i 0) in
    let all = length-map s.scenario.stations (λ (x : Station). x.id) in
    let turns_all = ap length h.round_order_is ∙ turns-length s.scenario s.order in
    omega (arith, own, all, turns_all)

-- the station at the place of a turn
pub station-at : (s : SetupView) (schedule places : List ℕ) (place_in_round place d : ℕ) → IsSetup s schedule places → place_in_round < length s.scenario.stations → get_or places place_in_round d ≡ place →
    (place < length s.scenario.stations) × (get_or (facilities s.scenario) place 0 ≡ get_or (round_order s.scenario s.order) place_in_round 0)
station-at s schedule places place_in_round place d h inside at =
    let many = as-many s schedule places h in
    let here : place_in_round < length places = omega (arith, many, inside) in (
      subst (λ i. i < length s.scenario.stations) at (h.within place_in_round d here),
      ap (λ i. get_or (facilities s.scenario) i 0) (sym at)
          ∙ (sym (get_or-map (λ i. get_or (facilities s.scenario) i 0) places place_in_round d 0 here)
          ∙ ap (λ xs. get_or xs place_in_round 0) h.round_order_is),
    )
