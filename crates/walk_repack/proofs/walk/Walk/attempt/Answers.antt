use Rattle.std.proofs.Common.{IfOk, subst}
use Rattle.pack_defs.specs.declared.worker.Worker.{Worker}
use Rattle.cert_types.specs.Query.{AttemptIs}
use Rattle.walk_repack.proofs.walk.Walk.attempt.Goals as goal

pub returns-clause-said : goal.returns-clause-said
returns-clause-said g c =
    let last = g.P.Poll.last c.run.new.poll in
    subst (λ (w : Worker). IfOk c.walk_answer.result (λ attempt. AttemptIs c.args.book.now c.args.task.now w last attempt)) c.self.view_is
    (c.walk_answer.ensures last c.in_ok-outcome.ensures.outcome)
