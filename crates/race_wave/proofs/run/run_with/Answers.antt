-- The auction opens in the order that it keeps, and its record continues from its opening state.
use Rattle.std.proofs.Common.{◌∙◌, ap, subst}
use Rattle.std.specs.Prelude.{IfOk}
use Rattle.pack_defs.specs.declared.order.Order.TheVariants.{ByVolume}
use Rattle.auction_core.specs.Backed.{IsBacked}
use Rattle.auction_core.specs.Postings.{ContinuesIn}
use Rattle.auction_core.specs.State.{CoreState}
use Rattle.auction_core.proofs.Orders.{opening-order}
use Rattle.race_wave.proofs.run.run_with.Goals as goal

pub returns-clause-backed : goal.returns-clause-backed
returns-clause-backed g c =
    let order = ap (λ (state : CoreState). state.order) c.in_ok-auction.ensures.state ∙ opening-order _ _ _ in
    subst (λ sc. IfOk c.finish_with.result (IsBacked sc c.args.book.now ByVolume)) c.in_ok-scenario.ensures
    (subst (λ o. IfOk c.finish_with.result (IsBacked c.in_ok-scenario.scenario c.args.book.now o)) order c.finish_with.ensures.backed)

pub returns-clause-continues : goal.returns-clause-continues
returns-clause-continues g c = subst (λ state. IfOk c.finish_with.result (ContinuesIn state)) c.in_ok-auction.ensures.state c.finish_with.ensures.continues
