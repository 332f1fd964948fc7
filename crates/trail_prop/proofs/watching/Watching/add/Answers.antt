use Rattle.std.proofs.Common.{◌≡◌, ℕ, ◌+◌, List, [], ◌∷◌, ◌++◌, length, sym, ap, ◌∙◌, subst, length-append}
use Rattle.clause_db.specs.Clauses.{Clauses}
use Rattle.trail_prop.specs.declared.watch_update.WatchPlaces.{WatchPlaces}
use Rattle.trail_prop.specs.Trails.{TrailView}
use Rattle.trail_prop.specs.Watching.{WatchView, IsWatchInvariant}
use Rattle.trail_prop.specs.Open.{LitsWithin}
use Rattle.trail_prop.proofs.Minding.{watchful-added}
use Rattle.trail_prop.proofs.watching.Watching.add.Goals as goal

pub invariant_of-self-2 : goal.invariant_of-self-2
invariant_of-self-2 c =
    let v : WatchView = record { trail = c.self.inside.plain; lists = c.self.inside.watches; places = c.self.inside.places.items; pending = c.self.inside.pending.items; head = c.self.inside.head } in
    let within : LitsWithin v.trail.clauses.vars c.args.clause.now = subst (λ (x : WatchView). LitsWithin x.trail.clauses.vars c.args.clause.now) (sym c.self.view_is) c.requires in
    let a = c.in_ok-add.ensures.added in
    let places : c.push_reserved.new.self.items ≡ v.places ++ c.none.result ∷ [] = c.push_reserved.ensures.items ∙ ap (λ (z : List WatchPlaces). z ++ c.none.result ∷ []) c.reserve.ensures.items in
    let pending : c.push_reserved-2.new.self.items ≡ v.pending ++ c.len.result ∷ [] = c.push_reserved-2.ensures.items ∙ ap (λ (z : List ℕ). z ++ c.len.result ∷ []) c.reserve-2.ensures.items in
    let count : c.len.result ≡ length v.trail.clauses.list + 1 = c.len.ensures ∙ ap (λ (z : Clauses). length z.list) c.clauses.ensures.clauses ∙ ap (λ (t : TrailView). length t.clauses.list) a ∙ length-append v.trail.clauses.list (c.args.clause.now ∷ []) in
    subst (λ (t : TrailView). IsWatchInvariant (record { trail = t; lists = v.lists; places = c.push_reserved.new.self.items; pending = c.push_reserved-2.new.self.items; head = v.head })) (sym a)
    (subst (λ (ps : List WatchPlaces). IsWatchInvariant (record { trail = record { clauses = record { vars = v.trail.clauses.vars; list = v.trail.clauses.list ++ c.args.clause.now ∷ [] }; entries = v.trail.entries }; lists = v.lists; places = ps; pending = c.push_reserved-2.new.self.items; head = v.head })) (sym places)
    (subst (λ (ns : List ℕ). IsWatchInvariant (record { trail = record { clauses = record { vars = v.trail.clauses.vars; list = v.trail.clauses.list ++ c.args.clause.now ∷ [] }; entries = v.trail.entries }; lists = v.lists; places = v.places ++ c.none.result ∷ []; pending = ns; head = v.head })) (sym pending)
    (watchful-added v c.args.clause.now c.none.result c.len.result c.self.invariant within count)))
