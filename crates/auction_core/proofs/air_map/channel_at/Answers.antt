-- By the lemmas on a station's slot.
use Rattle.std.proofs.Common.{None, sym}
use Rattle.auction_core.proofs.Placed.{channel-at, channel-out}
use Rattle.auction_core.proofs.air_map.channel_at.Goals as goal

pub returns-in_default : goal.returns-in_default
returns-in_default c = sym (channel-out c.args.stations.now c.args.channels.now c.args.station c.in_default.ensures)

pub returns : goal.returns
returns c =
    channel-at c.args.stations.now c.args.channels.now c.in-Some.place c.args.station None c.requires.ascending c.requires.places c.in-Some.ensures
