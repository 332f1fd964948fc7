use Rattle.std.proofs.Common.{◌+◌, length}
use Rattle.std.specs.BTreeSet.{contains}
use Rattle.std.specs.Ordering.{nat_cmp}
use Rattle.packing_graph.specs.Reach.{count_unseen}
use Rattle.packing_graph.proofs.Reached.{IsWalk}
use Rattle.packing_graph.proofs.reach.reached.Given as goal

abbrev pub invariant-loop-next : goal.invariant-loop-next
invariant-loop-next g l = IsWalk l.book (g.S.StationSet.stations l.on) l.station (contains nat_cmp l.seen) l.waiting.items

abbrev pub decreases-loop-next : goal.decreases-loop-next
decreases-loop-next g l = length l.waiting.items + count_unseen (g.S.StationSet.stations l.on) (contains nat_cmp l.seen)
