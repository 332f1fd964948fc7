use Rattle.std.proofs.Common.{ℕ, List, [], get_or, sym, ap, ◌∙◌, subst}
use Rattle.std.specs.Prelude.{slice_set}
use Rattle.trail_prop.specs.declared.watches.Watch.{Watch}
use Rattle.trail_prop.specs.Watching.{WatchView, IsWatchInvariant, IsWatchOf, WatchFits}
use Rattle.trail_prop.proofs.Minding.{watchful-put}
use Rattle.trail_prop.proofs.watching.Watching.put.Goals as goal

pub invariant_of-self : goal.invariant_of-self
invariant_of-self c =
    let v : WatchView = record { trail = c.self.inside.plain; lists = c.self.inside.watches; places = c.self.inside.places.items; pending = c.self.inside.pending.items; head = c.self.inside.head } in
    let o : IsWatchOf v c.args.gone c.args.at c.args.watch.clause = subst (λ (x : WatchView). IsWatchOf x c.args.gone c.args.at c.args.watch.clause) (sym c.self.view_is) c.requires.stands in
    let f : WatchFits v.trail.clauses.list c.args.gone c.args.watch = subst (λ (x : WatchView). WatchFits x.trail.clauses.list c.args.gone c.args.watch) (sym c.self.view_is) c.requires.fits in
    let p = c.set.ensures ∙ ap (λ (n : ℕ). slice_set v.lists n (slice_set (get_or v.lists n []) c.args.at c.args.watch)) c.code.ensures in
    subst (λ (ls : List (List Watch)). IsWatchInvariant (record { trail = v.trail; lists = ls; places = v.places; pending = v.pending; head = v.head })) (sym p) (watchful-put v c.args.gone c.args.at c.args.watch c.self.invariant o f)
