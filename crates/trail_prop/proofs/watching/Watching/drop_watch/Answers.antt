use Rattle.std.proofs.Common.{◌≡◌, ℕ, ◌-◌, ◌<◌, List, [], true, length, get_or, sym, ap, ◌∙◌, subst}
use Rattle.std.specs.Prelude.{slice_set, swap_remove}
use Rattle.clause_db.specs.Clause.{opposite, has_lit}
use Rattle.clause_db.specs.Clauses.{LitWithin}
use Rattle.trail_prop.specs.declared.watches.Watch.{Watch}
use Rattle.trail_prop.specs.Entries.{lits_of}
use Rattle.trail_prop.specs.WatchUpdate.{IsWatchMove}
use Rattle.trail_prop.specs.Watching.{WatchView, IsWatchInvariant, IsNumber, IsWatchOf, clause_of, places_of, watches_at, watches_of}
use Rattle.trail_prop.proofs.Settling.{watchful-left}
use Rattle.trail_prop.specs.Steps.{Shrinks}
use Rattle.trail_prop.proofs.Minding.{code-listed}
use Rattle.trail_prop.proofs.Settling.{shrinks-removed}
use Rattle.trail_prop.proofs.watching.Watching.drop_watch.Goals as goal

pub invariant_of-self : goal.invariant_of-self
invariant_of-self c =
    let v : WatchView = record { trail = c.self.inside.plain; lists = c.self.inside.watches; places = c.self.inside.places.items; pending = c.self.inside.pending.items; head = c.self.inside.head } in
    let o : IsWatchOf v c.args.gone c.args.at c.args.number = subst (λ (x : WatchView). IsWatchOf x c.args.gone c.args.at c.args.number) (sym c.self.view_is) c.requires.stands in
    let n : IsNumber (length v.trail.clauses.list) c.args.number = subst (λ (x : WatchView). IsNumber (length x.trail.clauses.list) c.args.number) (sym c.self.view_is) c.requires.number in
    let d = c.remove-watch.result in
    let p = c.remove-watch.ensures.left ∙ ap (λ (n : ℕ). slice_set v.lists n (swap_remove (get_or v.lists n []) c.args.at d)) c.code.ensures in
    let wl : LitWithin v.trail.clauses.vars c.args.moved.lit = subst (λ (x : WatchView). LitWithin x.trail.clauses.vars c.args.moved.lit) (sym c.self.view_is) c.requires.lit in
    let wo : LitWithin v.trail.clauses.vars c.args.moved.other = subst (λ (x : WatchView). LitWithin x.trail.clauses.vars c.args.moved.other) (sym c.self.view_is) c.requires.other in
    let f : has_lit (lits_of v.trail.entries) (opposite c.args.gone) ≡ true = subst (λ (x : WatchView). has_lit (lits_of x.trail.entries) (opposite c.args.gone) ≡ true) (sym c.self.view_is) c.requires.gone in
    let m : IsWatchMove (lits_of v.trail.entries) (clause_of v.trail.clauses.list (c.args.number - 1)) (places_of v.places (c.args.number - 1)) c.args.gone c.args.moved = subst (λ (x : WatchView). IsWatchMove (lits_of x.trail.entries) (clause_of x.trail.clauses.list (c.args.number - 1)) (places_of x.places (c.args.number - 1)) c.args.gone c.args.moved) (sym c.self.view_is) c.requires.moved in
    let h : 0 < watches_of c.args.number (watches_at v.lists c.args.moved.lit) = subst (λ (x : WatchView). 0 < watches_of c.args.number (watches_at x.lists c.args.moved.lit)) (sym c.self.view_is) c.requires.watch_added in
    subst (λ (ls : List (List Watch)). IsWatchInvariant (record { trail = v.trail; lists = ls; places = slice_set v.places (c.args.number - 1) c.args.moved.places; pending = v.pending; head = v.head })) (sym p)
    (watchful-left v c.args.gone c.args.at c.args.number d c.args.moved c.self.invariant o n wl wo f m h)

pub returns : goal.returns
returns c =
    let v : WatchView = record { trail = c.self.inside.plain; lists = c.self.inside.watches; places = c.self.inside.places.items; pending = c.self.inside.pending.items; head = c.self.inside.head } in
    let o : IsWatchOf v c.args.gone c.args.at c.args.number = subst (λ (x : WatchView). IsWatchOf x c.args.gone c.args.at c.args.number) (sym c.self.view_is) c.requires.stands in
    let d = c.remove-watch.result in
    let p = c.remove-watch.ensures.left ∙ ap (λ (n : ℕ). slice_set v.lists n (swap_remove (get_or v.lists n []) c.args.at d)) c.code.ensures in
    subst (λ (x : WatchView). Shrinks x (record { trail = v.trail; lists = c.remove-watch.new.self; places = slice_set v.places (c.args.number - 1) c.args.moved.places; pending = v.pending; head = v.head }) c.args.gone c.args.at) c.self.view_is
    (shrinks-removed v c.remove-watch.new.self (slice_set v.places (c.args.number - 1) c.args.moved.places) v.pending c.args.gone c.args.at d (code-listed v c.args.gone c.self.invariant o.within) o.place p)
