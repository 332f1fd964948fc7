use Rattle.std.proofs.Common.{ℕ, ◌-◌, List, length, sym, subst}
use Rattle.std.specs.Prelude.{slice_set}
use Rattle.trail_prop.specs.Watching.{WatchView, IsWatchInvariant, IsNumber, IsPendingAt, IsWatched, clause_of}
use Rattle.trail_prop.proofs.Settling.{watchful-settled}
use Rattle.trail_prop.proofs.watching.Watching.mark_watched.Goals as goal

pub invariant_of-self : goal.invariant_of-self
invariant_of-self c =
    let v : WatchView = record { trail = c.self.inside.plain; lists = c.self.inside.watches; places = c.self.inside.places.items; pending = c.self.inside.pending.items; head = c.self.inside.head } in
    let q : IsPendingAt v c.args.at c.args.number = subst (λ (x : WatchView). IsPendingAt x c.args.at c.args.number) (sym c.self.view_is) c.requires.waits in
    let n : IsNumber (length v.trail.clauses.list) c.args.number = subst (λ (x : WatchView). IsNumber (length x.trail.clauses.list) c.args.number) (sym c.self.view_is) c.requires.number in
    let d = c.swap_remove-number.result in
    let w : IsWatched v.trail.entries v.head v.lists c.args.number (clause_of v.trail.clauses.list (c.args.number - 1)) c.args.places = subst (λ (x : WatchView). IsWatched x.trail.entries x.head x.lists c.args.number (clause_of x.trail.clauses.list (c.args.number - 1)) c.args.places) (sym c.self.view_is) c.requires.watched in
    subst (λ (ns : List ℕ). IsWatchInvariant (record { trail = v.trail; lists = v.lists; places = slice_set v.places (c.args.number - 1) c.args.places; pending = ns; head = v.head })) (sym c.swap_remove-number.ensures.items) (watchful-settled v c.args.at c.args.number d c.args.places c.self.invariant q n w)
