use Rattle.std.proofs.Common.{◌≡◌, length, subst, arith}
use Rattle.std.specs.BTreeSet.{contains}
use Rattle.std.specs.Ordering.{nat_cmp}
use Rattle.packing_graph.proofs.Reached.{IsWalk, walk-start, walk-step, walk-done}
use Rattle.packing_graph.proofs.WalkLemmas.{has_more, none-in}
use Rattle.packing_graph.proofs.reach.reached.Goals as goal

pub loop-next-init : goal.loop-next-init
loop-next-init g c =
    let on = g.S.StationSet.stations c.args.on.now in
    rw c.in_ok-waiting.ensures.items (walk-start c.args.book.now on c.args.station (contains nat_cmp c.new-seen.result) (contains nat_cmp c.insert.new.self) (none-in c.new-seen.result c.new-seen.ensures.empty) (has_more c.new-seen.result c.insert.new.self c.args.station c.in_ok-insert.ensures.updates))

pub loop-next-preserved : goal.loop-next-preserved
loop-next-preserved g c =
    let on = g.S.StationSet.stations c.args.on.now in
    let before : IsWalk c.args.book.now on c.args.station (contains nat_cmp c.loop-next.seen) _ = subst (λ ts. IsWalk c.args.book.now on c.args.station (contains nat_cmp c.loop-next.seen) ts) c.in-Some.ensures.items c.loop-next.invariant in
    walk-step c.args.book.now on c.neighbours.result.now c.args.station c.in-Some.next (contains nat_cmp c.loop-next.seen) (contains nat_cmp c.visit.new.seen) c.pop.new.self.items c.visit.new.waiting.items before c.neighbours.ensures.interfere c.in_ok-visit.ensures

pub returns : goal.returns
returns g c =
    let on = g.S.StationSet.stations c.args.on.now in
    let none : length c.loop-next.waiting.items ≡ 0 = omega (arith, c.loop-next.waiting.ok.0, c.in_default.ensures.cases.0) in
    walk-done c.args.book.now on c.args.station (contains nat_cmp c.loop-next.seen) c.loop-next.waiting.items none c.loop-next.invariant
