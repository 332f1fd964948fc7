-- If no turn is skipped, the clock is at rest.
use Rattle.std.proofs.Common.{◌∙◌, sym, ap}
use Rattle.auction_core.specs.State.{start_fits}
use Rattle.auction_core.proofs.ClockRunTests.{at-rest}
use Rattle.auction_core.proofs.clock_run.ClockRun.advance_to_query.Goals as goal

pub returns-clause-state : goal.returns-clause-state
returns-clause-state c =
    let last = c.skip_station.ensures in
    let before = c.loop.invariant in
    let running = ap start_fits last.running ∙ before.1.0 in
    λ n. sym (at-rest c.args.setup.now c.skip_station.new.self n running last.holds (last.rest c.loop-test.false)) ∙ (last.same n ∙ before.1.1.1.1 n)
