use Rattle.std.proofs.Common.{◌≡◌, ◌++◌, sym, subst}
use Rattle.trail_prop.specs.Trails.{TrailView}
use Rattle.trail_prop.specs.Watching.{WatchView, IsWatchInvariant}
use Rattle.trail_prop.proofs.Minding.{watchful-grown}
use Rattle.trail_prop.proofs.Trailing.{same-trail}
use Rattle.trail_prop.proofs.watching.Watching.scan.Goals as goal

pub invariant_of-self : goal.invariant_of-self
invariant_of-self c =
    let v : WatchView = record { trail = c.self.inside.plain; lists = c.self.inside.watches; places = c.self.inside.places.items; pending = c.self.inside.pending.items; head = c.self.inside.head } in
    let g = c.propagate.ensures.grows in
    let e : c.propagate.new.self ≡ record { clauses = v.trail.clauses; entries = v.trail.entries ++ g.more } = same-trail c.propagate.new.self v.trail.clauses (v.trail.entries ++ g.more) c.propagate.ensures.clauses g.follows in
    subst (λ (t : TrailView). IsWatchInvariant (record { trail = t; lists = v.lists; places = v.places; pending = v.pending; head = v.head })) (sym e) (watchful-grown v g.more c.self.invariant)
