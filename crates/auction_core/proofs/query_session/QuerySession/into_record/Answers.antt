-- The record of a state that keeps the rule and has ended is backed.
use Rattle.std.proofs.Common.{◌≡◌, ◌∙◌, ap, sym, subst, true}
use Rattle.std.proofs.lemmas.Result.{IfOk-weaker}
use Rattle.pack_defs.specs.declared.scenario.Scenario.{Scenario}
use Rattle.auction_core.specs.declared.record.Record.{Record}
use Rattle.auction_core.specs.Backed.{IsBacked, record_of}
use Rattle.auction_core.specs.QuerySession.{QuerySessionView}
use Rattle.auction_core.specs.ClockRun.{core_state}
use Rattle.auction_core.specs.State.{has_ended}
use Rattle.auction_core.proofs.Ended.{ended-backed}
use Rattle.auction_core.proofs.Kept.{rule-kept}
use Rattle.auction_core.proofs.TaskLemmas.{ended-begun}
use Rattle.auction_core.proofs.query_session.QuerySession.into_record.Goals as goal

pub into_record-requires-clause-settled : goal.into_record-requires-clause-settled
into_record-requires-clause-settled c =
    let own = c.self.inside in
    let state = core_state own.setup own.clock_run own.number in
    ended-begun own.setup.scenario state (subst (λ (v : QuerySessionView). has_ended v.state ≡ true) (sym c.self.view_is) c.requires.ended)

pub returns-clause-backed : goal.returns-clause-backed
returns-clause-backed c =
    let own = c.self.inside in
    let s = own.setup in
    let state = core_state s own.clock_run own.number in
    let ended : has_ended state ≡ true = subst (λ (v : QuerySessionView). has_ended v.state ≡ true) (sym c.self.view_is) c.requires.ended in
    let backed = ended-backed s.scenario s.book state (rule-kept s.scenario s.book state c.self.invariant.rule) ended in
    let same : c.args.scenario ≡ s.scenario = c.requires.scenario ∙ sym (ap (λ (v : QuerySessionView). v.scenario) c.self.view_is) in
    IfOk-weaker c.into_record.result (λ (r : Record). r ≡ record_of c.args.scenario (core_state s own.clock_run 0)) (IsBacked c.args.scenario c.args.self.book c.args.self.state.order)
    (λ (r : Record) e. subst (λ (v : QuerySessionView). IsBacked c.args.scenario v.book v.state.order r) c.self.view_is
    (subst (IsBacked c.args.scenario s.book s.order) (sym e)
    (subst (λ (z : Scenario). IsBacked z s.book s.order (record_of z (core_state s own.clock_run 0))) (sym same) backed)))
    c.into_record.ensures
