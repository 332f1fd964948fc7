-- A part, and the parts after it.
use Rattle.std.proofs.lemmas.Result.{err_from_is_err_and}
use Rattle.std.specs.List.{flat_map}
use Rattle.commands.proofs.MessageLemmas.{writes-cut, writes-then}
use Rattle.commands.proofs.messages.+write_parts.Goals as goal

pub returns-in_err-write-clause-modelled : goal.returns-in_err-write-clause-modelled
returns-in_err-write-clause-modelled g t c =
    let p = err_from_is_err_and c.from_residual.result c.from_residual.ensures.1 in
    rw (c.in-Some.ensures.cases.0, p.1)
    (writes-cut _ _ c.in-Some.first.now.now (flat_map (λ part. part.now) c.in-Some.rest.now) _ _ (rw c.as_bytes.ensures.value at c.in_err-write.ensures.modelled))

pub returns-clause-modelled : goal.returns-clause-modelled
returns-clause-modelled g t c =
    rw c.in-Some.ensures.cases.0
    (writes-then _ _ _ c.in-Some.first.now.now (flat_map (λ part. part.now) c.in-Some.rest.now) _ _ (rw c.as_bytes.ensures.value at c.in_ok-write.ensures.modelled) c.write_parts.ensures.modelled)
