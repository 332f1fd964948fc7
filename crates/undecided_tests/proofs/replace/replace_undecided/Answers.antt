-- The result is the record with that step settled by the proof, of which the laws speak.
use Rattle.std.proofs.Common.{◌≡◌, List, ◌-◌, MatchOption, ap, sym, subst}
use Rattle.std.specs.Prelude.{⊤}
use Rattle.auction_core.specs.Backed.{IsBacked, undecided_of}
use Rattle.auction_core.specs.State.{test_of}
use Rattle.auction_core.specs.declared.record.Record.{Record}
use Rattle.auction_core.specs.declared.record.Step.{Step}
use Rattle.result_text.proofs.ReplayLemmas.{auction-of}
use Rattle.undecided_tests.specs.Queries.{step_numbered}
use Rattle.undecided_tests.specs.Settled.{settled_by, without_test}
use Rattle.undecided_tests.proofs.RecordLemmas.{settled-backed, settled-left}
use Rattle.undecided_tests.proofs.SettledLemmas.{open-at, set-is}
use Rattle.undecided_tests.proofs.replace.replace_undecided.Goals as goal
use Rattle.undecided_tests.proofs.replace.replace_undecided.Goals.{After-from_vec}

is-settled : (c : After-from_vec) → (let r : Record = record c.args.rec { steps = c.from_vec.result } in r) ≡ settled_by c.args.rec c.args.step c.args.proof
is-settled c =
    ap (λ (xs : List Step). let r : Record = record c.args.rec { steps = xs } in r)
    (set-is c.into_vec-steps.result.items c.args.rec.steps c.from_vec.result (c.args.step - 1) c.index_mut.result.now c.args.proof
    (open-at c.args.rec.steps c.args.step c.requires.undecided) c.into_vec-steps.ensures c.index_mut.ensures.value c.from_vec.ensures)

pub returns-clause-record_is : goal.returns-clause-record_is
returns-clause-record_is c = is-settled c

pub returns-clause-backed : goal.returns-clause-backed
returns-clause-backed c =
    subst (IsBacked c.args.rec.scenario c.args.book.now c.args.rec.order) (sym (is-settled c))
    (settled-backed c.args.rec.scenario c.args.book.now c.args.rec c.args.step c.args.proof (auction-of _ _ c.requires.limits c.keeps_order.ensures) c.requires.backed c.requires.undecided c.requires.refutes)

pub returns-clause-left : goal.returns-clause-left
returns-clause-left c =
    subst (λ (r : Record). MatchOption (step_numbered c.args.rec.steps c.args.step) ⊤ (λ x. undecided_of r.steps ≡ without_test (test_of x) (undecided_of c.args.rec.steps))) (sym (is-settled c))
    (settled-left c.args.rec.scenario c.args.book.now c.args.rec c.args.step c.args.proof (auction-of _ _ c.requires.limits c.keeps_order.ensures) c.requires.backed c.requires.undecided)
