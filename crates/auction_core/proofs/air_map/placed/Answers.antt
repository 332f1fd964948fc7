-- By the lemmas on one more slot.
use Rattle.std.proofs.Common.{rules, None, refl}
use Rattle.auction_core.specs.AirMap.{placed_entries}
use Rattle.auction_core.proofs.Placed.{place-passed, places-done, placed-ascending}
use Rattle.auction_core.proofs.air_map.placed.Goals as goal

pub loop-i-preserved-in_default : goal.loop-i-preserved-in_default
loop-i-preserved-in_default c =
    place-passed c.args.stations.now c.args.channels.now c.loop-i.entries.items (placed_entries c.args.stations.now c.args.channels.now) c.loop-i.i None c.requires.places (search rules) (search rules) refl c.loop-i.invariant

pub returns : goal.returns
returns c =
    let whole = places-done c.args.stations.now c.args.channels.now c.loop-i.entries.items (placed_entries c.args.stations.now c.args.channels.now) c.loop-i.i (search rules) c.loop-i.invariant in
    (whole, rw whole (placed-ascending c.args.stations.now c.args.channels.now c.requires.ascending))
