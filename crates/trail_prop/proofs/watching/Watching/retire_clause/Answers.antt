use Rattle.std.proofs.Common.{◌≡◌, ℕ, ◌-◌, List, get_or, sym, ◌∙◌, subst}
use Rattle.trail_prop.specs.Watching.{WatchView, IsWatchInvariant, IsPendingAt, IsFixed, clause_of}
use Rattle.trail_prop.proofs.Settling.{watchful-forgot}
use Rattle.std.proofs.lemmas.List.{get_or_default}
use Rattle.trail_prop.proofs.watching.Watching.retire_clause.Goals as goal

pub invariant_of-self : goal.invariant_of-self
invariant_of-self c =
    let v : WatchView = record { trail = c.self.inside.plain; lists = c.self.inside.watches; places = c.self.inside.places.items; pending = c.self.inside.pending.items; head = c.self.inside.head } in
    let q : IsPendingAt v c.args.at c.args.number = subst (λ (x : WatchView). IsPendingAt x c.args.at c.args.number) (sym c.self.view_is) c.requires.waits in
    let d = c.swap_remove-number.result in
    let e' : get_or v.pending c.args.at d ≡ c.args.number = sym (q.number ∙ get_or_default v.pending c.args.at c.args.number d q.place) in
    let f : IsFixed v.trail.entries (clause_of v.trail.clauses.list (c.args.number - 1)) = subst (λ (x : WatchView). IsFixed x.trail.entries (clause_of x.trail.clauses.list (c.args.number - 1))) (sym c.self.view_is) c.requires.fixed in
    let f' = subst (λ (n : ℕ). IsFixed v.trail.entries (clause_of v.trail.clauses.list (n - 1))) (sym e') f in
    subst (λ (ns : List ℕ). IsWatchInvariant (record { trail = v.trail; lists = v.lists; places = v.places; pending = ns; head = v.head })) (sym c.swap_remove-number.ensures.items) (watchful-forgot v c.args.at d c.self.invariant q.place f')
