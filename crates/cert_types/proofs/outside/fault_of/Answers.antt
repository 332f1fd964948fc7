-- A proof over the complete set, by a worker with a budget of as many lines, has the faults of one from outside.
use Rattle.std.proofs.Common.{◌≡◌, ◌∙◌, IfOk, List, ℕ, ap, subst}
use Rattle.cert_types.specs.Valid.{proof_fault}
use Rattle.cert_types.proofs.Outsiders.{as-of-no_one, no_one}
use Rattle.cert_types.proofs.outside.fault_of.Goals as goal

pub returns : goal.returns
returns c =
    let book = c.args.book.now in
    let task = c.args.task.now in
    let lines = c.args.log.now.lines in
    subst (λ o. IfOk c.proof_fault.result (λ fault. fault ≡ o))
    (ap (λ (s : List ℕ). proof_fault book task no_one s lines) c.as_slice.ensures ∙ as-of-no_one book task lines c.requires.rises)
    c.proof_fault.ensures
