-- The station's volume can be looked up by its number, and an offer is bounded.
use Rattle.std.proofs.Common.{◌≤◌, ◌-◌, sym, subst, arith, set, None, ℕ, get_or}
use Rattle.pack_defs.specs.declared.station.Station.{Station}
use Rattle.pack_defs.specs.Scenario.{facilities}
use Rattle.pack_defs.proofs.PriceLaws.{prices_rounds}
use Rattle.auction_core.specs.declared.clock.StationStatus.TheVariants.{Frozen}
use Rattle.auction_core.specs.Clock.{most_paid}
use Rattle.auction_core.proofs.ClockLemmas.{facility_at, offer_at}
use Rattle.auction_core.proofs.Paid.{frozen-view, offer_at_most}
use Rattle.auction_core.proofs.clock.Clock.settle.Goals as goal

abbrev none : Station
none = record { id = 0; volume = 0; value = None }

pub offer-price-requires : goal.offer-price-requires
offer-price-requires c = rw c.requires.schedule (omega (arith, prices_rounds c.args.sc.now))

pub freeze-requires-clause-price : goal.freeze-requires-clause-price
freeze-requires-clause-price c =
    let sc = c.args.sc.now in
    let own = offer_at sc c.args.i (c.args.round - 1) none c.requires.limits.ascend c.requires.place in
    let most = offer_at_most sc (get_or (facilities sc) c.args.i 0) (c.args.round - 1) c.requires.limits in
    rw (c.offer-price.ensures, c.as_slice.ensures, c.requires.schedule) (subst (λ (n : ℕ). n ≤ most_paid) own most)

pub returns : goal.returns
returns c =
    let sc = c.args.sc.now in
    let own = offer_at sc c.args.i (c.args.round - 1) none c.requires.limits.ascend c.requires.place in
    let id = facility_at sc c.args.i none c.requires.place in
    rw (c.if-fits.false, c.freeze.ensures, c.offer-price.ensures, c.as_slice.ensures, c.requires.schedule)
    (sym (frozen-view (set c.args.self.now.station_statuses c.args.i (Frozen c.args.round)) c.args.self.now.paid id own))
