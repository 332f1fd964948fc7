-- An accepted certificate settles the current query.
use Rattle.std.proofs.Common.{◌≡◌, ◌∙◌, ◌==◌, ◌&&◌, Some, None, sym, ap, subst, true}
use Rattle.std.proofs.lemmas.Option.{MatchOption-at_some}
use Rattle.cert_types.specs.Query.{IsQuery}
use Rattle.auction_core.specs.State.{has_ended, task_of}
use Rattle.auction_core.specs.Checked.{is_about}
use Rattle.auction_core.specs.NotShown.{query_fault}
use Rattle.auction_core.proofs.QueryFaults.{about-settled, settles, standing}
use Rattle.auction_core.proofs.step_check.query_step.Goals as goal

pub settling-settled-requires : goal.settling-settled-requires
settling-settled-requires c =
    let v = c.args.query_session.now in
    subst (λ b. IsQuery b c.in-Some.task) (sym c.book.ensures) (MatchOption-at_some _ (IsQuery v.book) c.in-Some.task c.in-Some.is c.in_ok-task.ensures.query)

pub settle-requires-clause-standing : goal.settle-requires-clause-standing
settle-requires-clause-standing c =
    let v = c.args.query_session.now in
    let is : task_of v.scenario v.book v.state ≡ Some c.in-Some.task = sym c.in_ok-task.ensures.task ∙ c.in-Some.is in
    ap has_ended c.in_ok-reserve-in-Ok.ensures.state ∙ standing v.scenario v.book v.state c.in-Some.task is

pub settle-requires-clause-settles : goal.settle-requires-clause-settles
settle-requires-clause-settles c =
    let v = c.args.query_session.now in
    let r = c.in_ok-reserve-in-Ok.ensures in
    let task = c.in-Some.task in
    let x = c.args.x in
    let is : task_of v.scenario v.book v.state ≡ Some task = sym c.in_ok-task.ensures.task ∙ c.in-Some.is in
    let about : (task.round == x.step.round && is_about task.station x.step.station) ≡ true = sym c.is_about.ensures ∙ c.if-not-is_about.false in
    let none = subst (λ b. query_fault v.scenario b task x.step.shown c.as_slice.result.now ≡ None) c.book.ensures (c.in-Ok.ensures.valid v.scenario (sym c.workers.ensures)) in
    settles v.scenario _ v.book _ v.state _ task x.step.shown c.in-Ok.shown r.scenario r.book r.state is c.in-Ok.ensures.same
    (about-settled v.scenario v.book task x.step.round x.step.station x.step.shown c.as_slice.result.now about none)
