-- The clock run before the start test, with more room.
use Rattle.std.proofs.Common.{◌∙◌, ap, sym, subst}
use Rattle.auction_core.specs.ClockRun.{ClockRunView, IsClockRun, core_state}
use Rattle.auction_core.proofs.QuerySessionLemmas.{clock_run-roomier}
use Rattle.auction_core.proofs.clock_run.ClockRun.open.Goals as goal

pub returns-clause-holds : goal.returns-clause-holds
returns-clause-holds c =
    let first = c.in_ok-clock_run in
    subst (IsClockRun c.args.setup.now) (sym c.in_ok-reserve.ensures.same) (clock_run-roomier c.args.setup.now first.clock_run _ _ first.ensures.holds)

pub returns-clause-opening : goal.returns-clause-opening
returns-clause-opening c =
    ap (λ (z : ClockRunView). core_state c.args.setup.now z 1) c.in_ok-reserve.ensures.same ∙ c.in_ok-clock_run.ensures.opening
