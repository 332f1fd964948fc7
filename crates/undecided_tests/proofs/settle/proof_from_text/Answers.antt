-- The accepted lines are the log's, up to the first empty one.
use Rattle.std.proofs.Common.{◌≡◌, ◌∙◌, ap, subst, sym}
use Rattle.rup_check.specs.declared.line.Line.{Line}
use Rattle.cert_types.specs.Outside.{IsOutsideProof}
use Rattle.cert_types.specs.declared.outside.OutsideProof.{OutsideProof}
use Rattle.lrat_text.specs.Read.{log_of}
use Rattle.std.specs.Prelude.{List, Ok}
use Rattle.auction_core.specs.LogNumbers.{clauses_in}
use Rattle.undecided_tests.specs.Settled.{settled_by}
use Rattle.undecided_tests.specs.Settling.{cut_proof}
use Rattle.undecided_tests.proofs.SettleLemmas.{settled-so}
use Rattle.undecided_tests.proofs.settle.proof_from_text.Goals as goal

pub returns-in-Ok-certify_outside-clause-settles : goal.returns-in-Ok-certify_outside-clause-settles
returns-in-Ok-certify_outside-clause-settles c =
    let book = c.args.book.now in
    let rec = c.args.rec.now in
    let step = c.args.step in
    let text = c.args.text.now in
    let task = c.in_ok-task.task in
    let log = c.in-Ok.log in
    let same : c.in-Ok-certify_outside.proof ≡ cut_proof log =
    c.in-Ok-certify_outside.ensures.proof_is ∙ ap (λ (ls : List Line). let p : OutsideProof = record { log = record { lines = ls } } in p) c.up_to_empty-log.ensures in
    let valid : IsOutsideProof book task.set (cut_proof log) = subst (IsOutsideProof book task.set) same c.in-Ok-certify_outside.ensures.valid in
    let read : log_of text (clauses_in book task.set) ≡ Ok log =
    ap (λ n. log_of text n) (sym (c.clause_count-clauses.ensures.count ∙ ap (clauses_in book) c.as_slice.ensures)) ∙ c.in-Ok.ensures in
    settled-so book rec step task text log c.in_ok-task.ensures.task_is read valid ∙ ap Ok (ap (settled_by rec step) (sym same))
