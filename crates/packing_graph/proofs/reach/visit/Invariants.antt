use Rattle.std.proofs.Common.{take}
use Rattle.std.specs.BTreeSet.{contains}
use Rattle.std.specs.Ordering.{nat_cmp}
use Rattle.packing_graph.specs.Reach.{IsVisited}
use Rattle.packing_graph.proofs.reach.visit.Given as goal

abbrev pub invariant-loop-t : goal.invariant-loop-t
invariant-loop-t g l = IsVisited (g.S.StationSet.stations l.on) (take l.t-index l.near) (contains nat_cmp l.fn.seen) l.fn.waiting.items (contains nat_cmp l.seen) l.waiting.items
