-- The entries so far and those of the remaining slots are all entries.
use Rattle.std.proofs.Common.{◌≡◌, ◌++◌, drop}
use Rattle.auction_core.specs.AirMap.{placed_entries}
use Rattle.auction_core.proofs.air_map.placed.Given as goal

abbrev pub invariant-loop-i : goal.invariant-loop-i
invariant-loop-i l =
    l.entries.items ++ placed_entries (drop l.i l.stations) (drop l.i l.channels) ≡ placed_entries l.stations l.channels
