use Rattle.std.proofs.Common.{ℕ, List, [], length, get_or, sym, ap, ◌∙◌, subst}
use Rattle.std.specs.Prelude.{slice_set, swap_remove}
use Rattle.clause_db.specs.Clause.{code_of}
use Rattle.trail_prop.specs.declared.watches.Watch.{Watch}
use Rattle.trail_prop.specs.Watching.{WatchView, IsWatchInvariant, IsNumber, IsWatchOf, watches_at}
use Rattle.trail_prop.proofs.Minding.{watchful-shelved}
use Rattle.trail_prop.specs.Steps.{Shrinks}
use Rattle.trail_prop.proofs.Minding.{code-listed}
use Rattle.trail_prop.proofs.Settling.{shrinks-removed}
use Rattle.trail_prop.proofs.watching.Watching.defer_clause.Goals as goal

pub invariant_of-self-2 : goal.invariant_of-self-2
invariant_of-self-2 c =
    let v : WatchView = record { trail = c.self.inside.plain; lists = c.self.inside.watches; places = c.self.inside.places.items; pending = c.self.inside.pending.items; head = c.self.inside.head } in
    let o : IsWatchOf v c.args.gone c.args.at c.args.number = subst (λ (x : WatchView). IsWatchOf x c.args.gone c.args.at c.args.number) (sym c.self.view_is) c.requires.stands in
    let n : IsNumber (length v.trail.clauses.list) c.args.number = subst (λ (x : WatchView). IsNumber (length x.trail.clauses.list) c.args.number) (sym c.self.view_is) c.requires.number in
    let d = c.remove-watch.result in
    let p = c.remove-watch.ensures.left ∙ ap (λ (n : ℕ). slice_set v.lists n (swap_remove (get_or v.lists n []) c.args.at d)) c.code.ensures in
    subst (λ (ls : List (List Watch)). IsWatchInvariant (record { trail = v.trail; lists = ls; places = v.places; pending = c.push.new.self.items; head = v.head })) (sym p)
    (subst (λ (ns : List ℕ). IsWatchInvariant (record { trail = v.trail; lists = slice_set v.lists (code_of c.args.gone) (swap_remove (watches_at v.lists c.args.gone) c.args.at d); places = v.places; pending = ns; head = v.head })) (sym c.in_ok-push.ensures.items)
    (watchful-shelved v c.args.gone c.args.at c.args.number d c.self.invariant o n))

pub returns-clause-shrinks : goal.returns-clause-shrinks
returns-clause-shrinks c =
    let v : WatchView = record { trail = c.self.inside.plain; lists = c.self.inside.watches; places = c.self.inside.places.items; pending = c.self.inside.pending.items; head = c.self.inside.head } in
    let o : IsWatchOf v c.args.gone c.args.at c.args.number = subst (λ (x : WatchView). IsWatchOf x c.args.gone c.args.at c.args.number) (sym c.self.view_is) c.requires.stands in
    let d = c.remove-watch.result in
    let p = c.remove-watch.ensures.left ∙ ap (λ (n : ℕ). slice_set v.lists n (swap_remove (get_or v.lists n []) c.args.at d)) c.code.ensures in
    subst (λ (x : WatchView). Shrinks x (record { trail = v.trail; lists = c.remove-watch.new.self; places = v.places; pending = c.push.new.self.items; head = v.head }) c.args.gone c.args.at) c.self.view_is
    (shrinks-removed v c.remove-watch.new.self v.places c.push.new.self.items c.args.gone c.args.at d (code-listed v c.args.gone c.self.invariant o.within) o.place p)
