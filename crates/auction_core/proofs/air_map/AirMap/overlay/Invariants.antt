-- Overlaying the entries still to come on the map so far gives the final map.
use Rattle.std.proofs.Common.{◌≡◌, drop}
use Rattle.pack_defs.specs.ChannelMap.{overlaid}
use Rattle.auction_core.proofs.air_map.AirMap.overlay.Given as goal

abbrev pub invariant-loop-entry : goal.invariant-loop-entry
invariant-loop-entry l =
    (overlaid l.self.entries (drop l.entry-index l.entry-items) ≡ overlaid l.fn.self.entries l.delta)
    × (l.self.stations ≡ l.fn.self.stations)
