use Rattle.std.proofs.Common.{◌≡◌, filter, take}
use Rattle.pack_defs.specs.Prices.{declines}
use Rattle.pack_defs.specs.Scenario.{facilities}
use Rattle.auction_core.proofs.start.start_set.Given as goal

abbrev pub invariant-loop-station : goal.invariant-loop-station
invariant-loop-station l = l.set.items ≡ filter (λ s. declines l.sc s 0) (take l.station-index (facilities l.sc))
