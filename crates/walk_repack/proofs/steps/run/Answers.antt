use Rattle.std.proofs.Common.{◌≡◌, length, subst, arith}
use Rattle.walk_repack.specs.Steps.{WalkEndIs}
use Rattle.walk_repack.proofs.steps.run.Goals as goal

pub returns-clause-outcome : goal.returns-clause-outcome
returns-clause-outcome g c =
    let whole : length c.moves.walk_state.moves ≡ c.args.budget = omega arith in
    subst (λ n. WalkEndIs c.moves.walk_state n c.args.number (g.P.Poll.last c.moves.poll) c.final_status.result) whole (c.final_status.ensures c.args.number (g.P.Poll.last c.moves.poll))
