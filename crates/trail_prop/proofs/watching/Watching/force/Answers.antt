use Rattle.std.proofs.Common.{[], ◌∷◌, sym, subst, Some}
use Rattle.trail_prop.specs.Entries.{level_of}
use Rattle.trail_prop.specs.Trails.{TrailView}
use Rattle.trail_prop.specs.Watching.{WatchView, IsWatchInvariant}
use Rattle.trail_prop.proofs.Minding.{watchful-grown}
use Rattle.trail_prop.proofs.watching.Watching.force.Goals as goal

pub invariant_of-self : goal.invariant_of-self
invariant_of-self c =
    let v : WatchView = record { trail = c.self.inside.plain; lists = c.self.inside.watches; places = c.self.inside.places.items; pending = c.self.inside.pending.items; head = c.self.inside.head } in
    subst (λ (t : TrailView). IsWatchInvariant (record { trail = t; lists = v.lists; places = v.places; pending = v.pending; head = v.head })) (sym c.force.ensures.pushed) (watchful-grown v (record { lit = c.args.lit; level = level_of v.trail.entries; reason = Some c.args.number } ∷ []) c.self.invariant)
