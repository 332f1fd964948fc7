-- The owners' file is loaded if it is named.
use Rattle.std.proofs.lemmas.Result.{err_from_is_err_and}
use Rattle.commands.proofs.CallLemmas.{owners-read, owners-stop}
use Rattle.commands.proofs.inputs.with_owners_file.Goals as goal

pub returns-in_err-owners-clause-called : goal.returns-in_err-owners-clause-called
returns-in_err-owners-clause-called g c = λ names e.
    let p = err_from_is_err_and c.from_residual.result c.from_residual.ensures.1 in
    rw (p.1, p.2)
    (owners-stop names c.in-Some.name.now c.in_err-owners.field-0.0 _ _ (rw c.in-Some.is at e) c.in_err-owners.ensures.called)

pub returns-clause-called : goal.returns-clause-called
returns-clause-called g c = λ names e. owners-read names c.in-Some.name.now _ _ (rw c.in-Some.is at e) c.in_ok-owners.ensures.called
