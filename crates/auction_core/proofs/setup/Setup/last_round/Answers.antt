-- By the lemmas on the prices of the rounds.
use Rattle.std.proofs.Common.{arith, subst}
use Rattle.auction_core.specs.Setup.{IsSetup, SetupView}
use Rattle.auction_core.proofs.SetupLemmas.{rounds-are, rounds-few}
use Rattle.auction_core.proofs.setup.Setup.last_round.Goals as goal

pub overflow_cast-result : goal.overflow_cast-result
overflow_cast-result c =
    let schedule = c.self.inside.schedule in
    let places = c.self.inside.places.items in
    let few = rounds-few c.args.self.now schedule.items places (subst (λ (s : SetupView). IsSetup s schedule.items places) c.self.view_is c.self.invariant) in
    omega (arith, few, schedule.ok.0, c.len.ensures)

pub returns-clause-value : goal.returns-clause-value
returns-clause-value c =
    let schedule = c.self.inside.schedule in
    let places = c.self.inside.places.items in
    let are = rounds-are c.args.self.now schedule.items places (subst (λ (s : SetupView). IsSetup s schedule.items places) c.self.view_is c.self.invariant) in
    omega (arith, are, schedule.ok.0, c.len.ensures)

pub returns-clause-few : goal.returns-clause-few
returns-clause-few c =
    let schedule = c.self.inside.schedule in
    let places = c.self.inside.places.items in
    let few = rounds-few c.args.self.now schedule.items places (subst (λ (s : SetupView). IsSetup s schedule.items places) c.self.view_is c.self.invariant) in
    omega (arith, few, schedule.ok.0, c.len.ensures)
