use Rattle.std.proofs.Common.{◌≡◌, ◌-◌, List, ◌∷◌, [], ◌++◌, sym, ap, ◌∙◌, subst, arith}
use Rattle.std.specs.Prelude.{slice_set}
use Rattle.clause_db.specs.declared.lit.Lit.{Lit}
use Rattle.clause_db.specs.Clauses.{Clauses}
use Rattle.clause_db.specs.Clause.{code_of}
use Rattle.trail_prop.specs.Open.{LitsWithin}
use Rattle.trail_prop.specs.Steps.{with_watch_list}
use Rattle.trail_prop.specs.Trails.{TrailView}
use Rattle.trail_prop.specs.Watching.{WatchView, IsWatched, clause_of, lit_at, watches_at}
use Rattle.trail_prop.proofs.Minding.{code-listed}
use Rattle.trail_prop.proofs.Meeting.{watched-both}
use Rattle.trail_prop.proofs.propagate.watch_two.Goals as goal

pub mark_watched-requires-clause-watched : goal.mark_watched-requires-clause-watched
mark_watched-requires-clause-watched c =
    let v = c.args.watching.now in
    let n = c.args.number in
    let p = c.args.places in
    let h = c.plain.ensures.watch_invariant in
    let clause = clause_of v.trail.clauses.list (n - 1) in
    let read : c.get-clause.result.now ≡ clause = c.get-clause.ensures.at ∙ ap (λ (z : Clauses). clause_of z.list (n - 1)) c.clauses.ensures.clauses ∙ ap (λ (t : TrailView). clause_of t.clauses.list (n - 1)) c.plain.ensures.plain in
    let one = c.in-Some.one in
    let two = c.in-Some-of.two in
    let mid = c.add_watch.new.self in
    let e : mid ≡ with_watch_list v (lit_at clause p.first) (watches_at v.lists (lit_at clause p.first) ++ one ∷ []) = subst (λ (z : List Lit). mid ≡ with_watch_list v (lit_at z p.first) (watches_at v.lists (lit_at z p.first) ++ one ∷ [])) read c.in_ok-add_watch.ensures.watch_added in
    let f : c.add_watch-2.new.self ≡ with_watch_list mid (lit_at clause p.second) (watches_at mid.lists (lit_at clause p.second) ++ two ∷ []) = subst (λ (z : List Lit). c.add_watch-2.new.self ≡ with_watch_list mid (lit_at z p.second) (watches_at mid.lists (lit_at z p.second) ++ two ∷ [])) read c.in_ok-add_watch-2.ensures.watch_added in
    let first = c.requires.number.from_one in
    let last = c.requires.number.to_last in
    let within : LitsWithin v.trail.clauses.vars clause = h.within (n - 1) [] (omega arith) in
    let a = code-listed v (lit_at clause p.first) h (within p.first _ c.requires.watchable.first_within) in
    let b = code-listed v (lit_at clause p.second) h (within p.second _ c.requires.watchable.second_within) in
    let r = watched-both v n clause p one two a b c.in-Some.ensures.0 c.in-Some-of.ensures.0 c.requires.watchable mid e in
    let back : v.trail ≡ mid.trail = sym (ap (λ (x : WatchView). x.trail) e) in
    let r' = subst (λ (t : TrailView). IsWatched mid.trail.entries mid.head (slice_set mid.lists (code_of (lit_at clause p.second)) (watches_at mid.lists (lit_at clause p.second) ++ two ∷ [])) n (clause_of t.clauses.list (n - 1)) p) back r in
    subst (λ (x : WatchView). IsWatched x.trail.entries x.head x.lists n (clause_of x.trail.clauses.list (n - 1)) p) (sym f) r'
