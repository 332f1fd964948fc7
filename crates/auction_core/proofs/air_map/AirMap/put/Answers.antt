-- By the lemma on a channel put into a slot.
use Rattle.auction_core.proofs.Placed.{put-at}
use Rattle.auction_core.proofs.air_map.AirMap.put.Goals as goal

pub returns-clause-entries : goal.returns-clause-entries
returns-clause-entries c =
    rw (← c.self.view_is) (put-at c.self.inside.stations.items c.self.inside.channels.items c.in-Some.place c.args.station c.args.channel c.self.invariant.0 c.self.invariant.1 (rw c.deref.ensures.value at c.in-Some.ensures))
