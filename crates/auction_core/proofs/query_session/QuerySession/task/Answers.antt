-- The current query, by whether the start was settled; by the rule, solvers may be run on it.
use Rattle.std.proofs.Common.{◌∙◌, MatchOption, ap, subst, sym, Some}
use Rattle.std.specs.Prelude.{⊤}
use Rattle.cert_types.specs.Query.{IsQuery}
use Rattle.auction_core.specs.QuerySession.{QuerySessionView}
use Rattle.auction_core.proofs.QueryLemmas.{query_session-query}
use Rattle.auction_core.proofs.TaskLemmas.{none-told, task-ended, task-start}
use Rattle.auction_core.proofs.query_session.QuerySession.task.Goals as goal

pub returns-then-is_none-clause-task : goal.returns-then-is_none-clause-task
returns-then-is_none-clause-task c =
    let now = c.args.self.now in
    let fresh = none-told c.self.inside.clock_run.start c.start.result.now c.is_none.result c.start.ensures c.is_none.ensures c.if-is_none.true in
    ap Some c.in_ok-start_task.ensures ∙ task-start now.scenario now.book now.state (sym (ap (λ (v : QuerySessionView). v.state.start) c.self.view_is) ∙ fresh)

pub returns-then-is_none-clause-query : goal.returns-then-is_none-clause-query
returns-then-is_none-clause-query c =
    let own = c.self.inside in
    subst (λ o. MatchOption o ⊤ (IsQuery c.args.self.now.book)) (sym (returns-then-is_none-clause-task c)) (query_session-query own.setup own.clock_run own.number c.args.self.now c.self.invariant c.self.view_is)

pub returns-then-has_ended-clause-task : goal.returns-then-has_ended-clause-task
returns-then-has_ended-clause-task c =
    let now = c.args.self.now in
    task-ended now.scenario now.book now.state (sym c.has_ended.ensures ∙ c.if-has_ended.true)

pub returns-clause-query : goal.returns-clause-query
returns-clause-query c =
    let own = c.self.inside in
    subst (λ o. MatchOption o ⊤ (IsQuery c.args.self.now.book)) (sym c.in_ok-test_task.ensures) (query_session-query own.setup own.clock_run own.number c.args.self.now c.self.invariant c.self.view_is)
