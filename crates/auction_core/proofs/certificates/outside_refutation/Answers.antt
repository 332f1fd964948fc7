-- The set of a query ascends, and an accepted log has no fault.
use Rattle.std.proofs.Common.{◌∙◌, sym, ap}
use Rattle.cert_types.specs.Outside.{outside_fault}
use Rattle.cert_types.specs.declared.outside.OutsideProof.{OutsideProof}
use Rattle.cert_types.proofs.Outsiders.{means-outside}
use Rattle.cert_types.proofs.QueryLaws.{query-task}
use Rattle.auction_core.proofs.certificates.outside_refutation.Goals as goal

pub certify_outside-requires : goal.certify_outside-requires
certify_outside-requires c = query-task c.args.book.now c.args.task.now c.requires

pub returns-in-Ok-clause-valid : goal.returns-in-Ok-clause-valid
returns-in-Ok-clause-valid c =
    ap (λ (p : OutsideProof). outside_fault c.args.book.now c.args.task.now.set p.log.lines) (sym c.in-Ok.ensures.proof_is)
    ∙ means-outside c.args.book.now c.args.task.now.set c.in-Ok.proof c.in-Ok.ensures.valid
