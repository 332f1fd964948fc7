-- One empty slot for each iteration.
use Rattle.std.proofs.Common.{◌≡◌, ℕ, List, [], length}
use Rattle.auction_core.specs.AirMap.{placed_entries}
use Rattle.auction_core.proofs.air_map.no_channels.Given as goal

abbrev pub invariant-loop : goal.invariant-loop
invariant-loop l = (length l.channels.items ≡ l.counter) × ((ss : List ℕ) → placed_entries ss l.channels.items ≡ [])
