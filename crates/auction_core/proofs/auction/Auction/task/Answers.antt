-- The query does not depend on the pending receipts, and its set ascends.
use Rattle.std.proofs.Common.{◌≡◌, MatchOption, subst, sym}
use Rattle.std.proofs.lemmas.Result.{IfOk-weaker}
use Rattle.std.specs.Prelude.{IfOk, ⊤}
use Rattle.cert_types.specs.Certificate.{IsTaskOf}
use Rattle.cert_types.specs.Query.{IsQuery}
use Rattle.auction_core.specs.State.{task_of}
use Rattle.auction_core.proofs.TakingLemmas.{task-noted}
use Rattle.auction_core.proofs.TaskLemmas.{task-ascends}
use Rattle.auction_core.proofs.auction.Auction.task.Goals as goal

pub returns-clause-task : goal.returns-clause-task
returns-clause-task c =
    let a = c.self.inside in
    subst (λ v. IfOk c.task.result (λ task. task ≡ task_of v.scenario v.book v.state)) c.self.view_is
    (subst (λ o. IfOk c.task.result (λ task. task ≡ o)) (sym (task-noted a.query_session.scenario a.query_session.book a.query_session.state a.pending_receipts.noted)) c.task.ensures.task)

pub returns-clause-checked : goal.returns-clause-checked
returns-clause-checked c =
    let w = c.self.inside.query_session in
    subst (λ v. IfOk c.task.result (λ task. MatchOption task ⊤ (IsTaskOf v.book))) c.self.view_is
    (IfOk-weaker c.task.result _ _ (λ task e. subst (λ o. MatchOption o ⊤ (IsTaskOf w.book)) (sym e) (task-ascends w.scenario w.book w.state c.self.invariant.replayed.auction)) c.task.ensures.task)

pub returns-clause-query : goal.returns-clause-query
returns-clause-query c = subst (λ v. IfOk c.task.result (λ task. MatchOption task ⊤ (IsQuery v.book))) c.self.view_is c.task.ensures.query
