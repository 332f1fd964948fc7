-- By the lemmas on the places of a round's order.
use Rattle.std.proofs.Common.{arith, subst, sym}
use Rattle.auction_core.specs.Setup.{IsSetup, SetupView}
use Rattle.auction_core.proofs.SetupLemmas.{as-many, station-at}
use Rattle.auction_core.proofs.setup.Setup.place.Goals as goal

pub index-requires : goal.index-requires
index-requires c =
    let schedule = c.self.inside.schedule.items in
    let places = c.self.inside.places in
    let many = as-many c.args.self.now schedule places.items (subst (λ (s : SetupView). IsSetup s schedule places.items) c.self.view_is c.self.invariant) in
    omega (arith, many, places.ok.0, c.requires)

pub returns-clause-within : goal.returns-clause-within
returns-clause-within c =
    let schedule = c.self.inside.schedule.items in
    let places = c.self.inside.places.items in
    (station-at c.args.self.now schedule places c.args.place_in_round c.index.result.now _ (subst (λ (s : SetupView). IsSetup s schedule places) c.self.view_is c.self.invariant) c.requires (sym c.index.ensures)).0

pub returns-clause-station : goal.returns-clause-station
returns-clause-station c =
    let schedule = c.self.inside.schedule.items in
    let places = c.self.inside.places.items in
    (station-at c.args.self.now schedule places c.args.place_in_round c.index.result.now _ (subst (λ (s : SetupView). IsSetup s schedule places) c.self.view_is c.self.invariant) c.requires (sym c.index.ensures)).1
