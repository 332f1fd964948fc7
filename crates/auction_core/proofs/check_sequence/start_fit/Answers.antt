-- An accepted fit settles the start test.
use Rattle.std.proofs.Common.{◌≡◌, ◌∙◌, Some, None, sym, ap, subst, option_map}
use Rattle.std.proofs.lemmas.Option.{MatchOption-at_some, none-some, same_Some}
use Rattle.cert_types.specs.Query.{IsQuery}
use Rattle.cert_types.specs.Valid.{fit_fault}
use Rattle.cert_types.proofs.Validity.{fit-clean}
use Rattle.auction_core.specs.declared.record.Shown.TheVariants.{Fits}
use Rattle.auction_core.specs.State.{start_task, task_of}
use Rattle.auction_core.specs.declared.prefix.ShownWhy.TheVariants.{NotValid}
use Rattle.auction_core.specs.Checked.{IsStepFault}
use Rattle.auction_core.proofs.QueryFaults.{settles}
use Rattle.auction_core.proofs.CheckLemmas.{task-start}
use Rattle.auction_core.proofs.check_sequence.start_fit.Goals as goal

pub unreachable-requires : goal.unreachable-requires
unreachable-requires c =
    let v = c.args.query_session.now in
    none-some (start_task v.scenario v.state.number) (sym c.in_default.is ∙ (c.in_ok-task.ensures.task ∙ task-start v.scenario v.book v.state c.requires.standing))

pub fit-requires : goal.fit-requires
fit-requires c =
    let v = c.args.query_session.now in
    subst (λ b. IsQuery b c.in-Some.task) (sym c.book.ensures) (MatchOption-at_some _ (IsQuery v.book) c.in-Some.task c.in-Some.is c.in_ok-task.ensures.query)

pub settle-requires-clause-settles : goal.settle-requires-clause-settles
settle-requires-clause-settles c =
    let v = c.args.query_session.now in
    let r = c.in_ok-reserve-in-Ok.ensures in
    let is : task_of v.scenario v.book v.state ≡ Some c.in-Some.task = sym c.in_ok-task.ensures.task ∙ c.in-Some.is in
    settles v.scenario _ v.book _ v.state _ c.in-Some.task (Fits c.args.delta) (Fits c.in-Ok.delta) r.scenario r.book r.state is (ap Fits c.in-Ok.ensures.same)
    (fit-clean v.book c.in-Some.task c.args.delta (subst (λ b. fit_fault b c.in-Some.task c.args.delta ≡ None) c.book.ensures c.in-Ok.ensures.valid))

pub returns-in-Ok-clause-fault : goal.returns-in-Ok-clause-fault
returns-in-Ok-clause-fault c =
    let v = c.args.query_session.now in
    let is : task_of v.scenario v.book v.state ≡ Some c.in-Some.task = sym c.in_ok-task.ensures.task ∙ c.in-Some.is in
    let same = same_Some c.in-Some.task (start_task v.scenario v.state.number) (sym is ∙ task-start v.scenario v.book v.state c.requires.standing) in
    subst (λ t. fit_fault v.book t c.args.delta ≡ None) same (subst (λ b. fit_fault b c.in-Some.task c.args.delta ≡ None) c.book.ensures c.in-Ok.ensures.valid)

pub returns-clause-why : goal.returns-clause-why
returns-clause-why c =
    let v = c.args.query_session.now in
    let is : task_of v.scenario v.book v.state ≡ Some c.in-Some.task = sym c.in_ok-task.ensures.task ∙ c.in-Some.is in
    let same = same_Some c.in-Some.task (start_task v.scenario v.state.number) (sym is ∙ task-start v.scenario v.book v.state c.requires.standing) in
    subst (λ t. IsStepFault c.in-Err.e (option_map NotValid (fit_fault v.book t c.args.delta))) same
    (subst (λ b. IsStepFault c.in-Err.e (option_map NotValid (fit_fault b c.in-Some.task c.args.delta))) c.book.ensures c.in-Err.ensures.why)
