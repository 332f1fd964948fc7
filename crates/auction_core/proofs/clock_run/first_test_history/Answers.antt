-- Stations that go on air change only the components and the count.
use Rattle.std.proofs.Common.{◌∙◌, ap, get_or, length}
use Rattle.auction_core.specs.TestHistory.{TestHistoryView}
use Rattle.auction_core.proofs.clock_run.first_test_history.Goals as goal

pub returns-clause-long : goal.returns-clause-long
returns-clause-long c =
    let stations = c.as_slice-stations.ensures ∙ ap (λ z. z.stations) c.scenario.ensures.value in
    ap (λ (z : TestHistoryView). length z.seen) c.put_all_on_air.ensures.same ∙ (c.in_ok-test_history.ensures.long ∙ ap length stations)

pub returns-clause-seen : goal.returns-clause-seen
returns-clause-seen c i = ap (λ (z : TestHistoryView). get_or z.seen i 0) c.put_all_on_air.ensures.same ∙ c.in_ok-test_history.ensures.seen i

pub returns-clause-steps : goal.returns-clause-steps
returns-clause-steps c = ap (λ (z : TestHistoryView). z.steps) c.put_all_on_air.ensures.same ∙ c.in_ok-test_history.ensures.steps
