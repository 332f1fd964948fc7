use Rattle.std.proofs.Common.{◌≡◌, ◌≤◌, true}
use Rattle.auction_core.specs.ClockRun.{IsClockRun, places_left}
use Rattle.auction_core.specs.State.{start_fits}
use Rattle.auction_core.proofs.ClockRunTests.{Leads}
use Rattle.auction_core.proofs.clock_run.ClockRun.advance_to_query.Given as goal

abbrev pub invariant-loop : goal.invariant-loop
invariant-loop l =
    IsClockRun l.setup l.self × ((start_fits l.self.start ≡ true) × ((l.self.start ≡ l.initial.self.start) × ((places_left l.setup l.self ≤ l.self.test_history.room) × Leads l.setup l.initial.self l.self)))

abbrev pub decreases-loop : goal.decreases-loop
decreases-loop l = places_left l.setup l.self
