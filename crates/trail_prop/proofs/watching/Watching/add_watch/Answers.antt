use Rattle.std.proofs.Common.{ℕ, List, [], ◌∷◌, ◌++◌, get_or, sym, ap, ◌∙◌, subst}
use Rattle.std.specs.Prelude.{slice_set}
use Rattle.clause_db.specs.Clauses.{LitWithin}
use Rattle.trail_prop.specs.declared.watches.Watch.{Watch}
use Rattle.trail_prop.specs.Watching.{WatchView, IsWatchInvariant, WatchFits}
use Rattle.trail_prop.proofs.Minding.{watchful-hung}
use Rattle.trail_prop.proofs.watching.Watching.add_watch.Goals as goal

pub invariant_of-self-2 : goal.invariant_of-self-2
invariant_of-self-2 c =
    let v : WatchView = record { trail = c.self.inside.plain; lists = c.self.inside.watches; places = c.self.inside.places.items; pending = c.self.inside.pending.items; head = c.self.inside.head } in
    let w : LitWithin v.trail.clauses.vars c.args.lit = subst (λ (x : WatchView). LitWithin x.trail.clauses.vars c.args.lit) (sym c.self.view_is) c.requires.within in
    let f : WatchFits v.trail.clauses.list c.args.lit c.args.watch = subst (λ (x : WatchView). WatchFits x.trail.clauses.list c.args.lit c.args.watch) (sym c.self.view_is) c.requires.fits in
    let p = c.in_ok-push.ensures.pushed ∙ ap (λ (n : ℕ). slice_set v.lists n (get_or v.lists n [] ++ c.args.watch ∷ [])) c.code.ensures in
    subst (λ (ls : List (List Watch)). IsWatchInvariant (record { trail = v.trail; lists = ls; places = v.places; pending = v.pending; head = v.head })) (sym p) (watchful-hung v c.args.lit c.args.watch c.self.invariant w f)
