-- Only the room changes.
use Rattle.std.proofs.Common.{◌∙◌, ap, sym, subst}
use Rattle.auction_core.specs.QuerySession.{QuerySessionView, IsQuerySession}
use Rattle.auction_core.specs.ClockRun.{ClockRunView, core_state, is_roomy}
use Rattle.auction_core.proofs.QuerySessionLemmas.{roomier, roomy-kept}
use Rattle.auction_core.proofs.query_session.QuerySession.reserve.Goals as goal

pub invariant_of-self : goal.invariant_of-self
invariant_of-self c =
    let own = c.self.inside in
    subst (λ (z : ClockRunView). IsQuerySession own.setup z own.number) (sym c.reserve.ensures.same) (roomier own.setup own.clock_run own.number _ _ c.self.invariant)

pub returns-clause-state : goal.returns-clause-state
returns-clause-state c =
    let own = c.self.inside in
    ap (λ (z : ClockRunView). core_state own.setup z own.number) c.reserve.ensures.same ∙ ap (λ (v : QuerySessionView). v.state) c.self.view_is

pub returns-clause-kept : goal.returns-clause-kept
returns-clause-kept c ready =
    let own = c.self.inside in
    let made = c.reserve.ensures in
    ap (is_roomy own.setup) made.same
    ∙ roomy-kept own.setup own.clock_run _ _ made.room_kept made.verdicts_kept (ap (λ (v : QuerySessionView). v.ready) c.self.view_is ∙ ready)
