-- The opening state.
use Rattle.std.proofs.Common.{◌≡◌, ◌∙◌, ap, sym, None, Some}
use Rattle.auction_core.specs.State.{CoreState, start_unasked, started}
use Rattle.auction_core.proofs.QuerySessionLemmas.{opening-none, opening-some}
use Rattle.auction_core.proofs.TaskLemmas.{bare-shown}
use Rattle.auction_core.proofs.query_session.first_clock_run.Goals as goal

pub begin-requires-clause-fresh : goal.begin-requires-clause-fresh
begin-requires-clause-fresh c = ap (λ (s : CoreState). s.start) c.in_ok-clock_run.ensures.opening

pub begin-requires-clause-shown_is : goal.begin-requires-clause-shown_is
begin-requires-clause-shown_is c =
    let s = c.args.setup.now in
    let unasked : start_unasked s.scenario s.book ≡ Some c.in-Some.shown = sym (c.in_ok-shown.ensures ∙ (λ i. start_unasked (c.scenario.ensures.value i) (c.book.ensures i))) ∙ c.in-Some.is in
    bare-shown s.scenario s.book c.in-Some.shown unasked

pub returns-clause-state : goal.returns-clause-state
returns-clause-state c =
    let s = c.args.setup.now in
    let unasked : start_unasked s.scenario s.book ≡ Some c.in-Some.shown = sym (c.in_ok-shown.ensures ∙ (λ i. start_unasked (c.scenario.ensures.value i) (c.book.ensures i))) ∙ c.in-Some.is in
    c.begin.ensures.state 1 ∙ (ap (λ (z : CoreState). started s.scenario s.book z c.in-Some.shown) c.in_ok-clock_run.ensures.opening ∙ opening-some s.scenario s.book s.order c.in-Some.shown unasked)

pub returns-in_default-clause-state : goal.returns-in_default-clause-state
returns-in_default-clause-state c =
    let s = c.args.setup.now in
    let unasked : start_unasked s.scenario s.book ≡ None = sym (c.in_ok-shown.ensures ∙ (λ i. start_unasked (c.scenario.ensures.value i) (c.book.ensures i))) ∙ c.in_default.is in
    c.in_ok-clock_run.ensures.opening ∙ opening-none s.scenario s.book s.order unasked
