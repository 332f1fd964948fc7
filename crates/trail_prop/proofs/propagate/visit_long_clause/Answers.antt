use Rattle.std.proofs.Common.{◌≡◌, ℕ, ◌+◌, ◌-◌, List, [], length, true, sym, ap, ◌∙◌, subst, arith}
use Rattle.clause_db.specs.declared.lit.Lit.{Lit}
use Rattle.clause_db.specs.Clause.{has_lit}
use Rattle.clause_db.specs.Clauses.{Clauses}
use Rattle.trail_prop.specs.Entries.{lits_of, Assigned}
use Rattle.trail_prop.specs.Open.{LitsWithin}
use Rattle.trail_prop.specs.Steps.{IsWatchHeld, AreHeld}
use Rattle.trail_prop.specs.Trails.{TrailView}
use Rattle.trail_prop.specs.Watching.{WatchView, HasTrue, clause_of, watches_at}
use Rattle.trail_prop.proofs.Minding.{code-listed}
use Rattle.trail_prop.proofs.Meeting.{within-has, held-put, length-put, held-shrunk}
use Rattle.trail_prop.proofs.propagate.visit_long_clause.Goals as goal

pub blocked_by-requires : goal.blocked_by-requires
blocked_by-requires c =
    let v = c.args.watching.now in
    let f = c.requires.next.next.fits in
    let h = c.plain.ensures.watch_invariant in
    let clause = clause_of v.trail.clauses.list (c.args.watch.clause - 1) in
    let read : c.get-clause.result.now ≡ clause_of v.trail.clauses.list (c.args.watch.clause - 1) = c.get-clause.ensures.at ∙ ap (λ (z : Clauses). clause_of z.list (c.args.watch.clause - 1)) c.clauses.ensures.clauses ∙ ap (λ (t : TrailView). clause_of t.clauses.list (c.args.watch.clause - 1)) c.plain.ensures.plain in
    let first = f.from_one in
    let last = f.to_last in
    let within : LitsWithin v.trail.clauses.vars clause = h.within (c.args.watch.clause - 1) [] (omega arith) in
    let has : has_lit clause c.in-Holds.other ≡ true = subst (λ (z : List Lit). has_lit z c.in-Holds.other ≡ true) read c.in-Holds.ensures.0 in
    let lw = within-has v.trail.clauses.vars clause c.in-Holds.other within has in
    let top = lw.1 in
    let small = h.small in
    record { from_one = lw.0; small = omega arith }

pub returns-in-Holds-clause-met : goal.returns-in-Holds-clause-met
returns-in-Holds-clause-met c =
    let v = c.args.watching.now in
    let f = c.requires.next.next.fits in
    let h = c.plain.ensures.watch_invariant in
    let clause = clause_of v.trail.clauses.list (c.args.watch.clause - 1) in
    let read : c.get-clause.result.now ≡ clause_of v.trail.clauses.list (c.args.watch.clause - 1) = c.get-clause.ensures.at ∙ ap (λ (z : Clauses). clause_of z.list (c.args.watch.clause - 1)) c.clauses.ensures.clauses ∙ ap (λ (t : TrailView). clause_of t.clauses.list (c.args.watch.clause - 1)) c.plain.ensures.plain in
    let first = f.from_one in
    let last = f.to_last in
    let within : LitsWithin v.trail.clauses.vars clause = h.within (c.args.watch.clause - 1) [] (omega arith) in
    let has : has_lit clause c.in-Holds.other ≡ true = subst (λ (z : List Lit). has_lit z c.in-Holds.other ≡ true) read c.in-Holds.ensures.0 in
    let lw = within-has v.trail.clauses.vars clause c.in-Holds.other within has in
    let known : lits_of c.assigned.result.now.entries ≡ lits_of v.trail.entries = ap (λ (a : Assigned). lits_of a.entries) c.assigned.ensures ∙ ap (λ (t : TrailView). lits_of t.entries) c.plain-2.ensures.plain in
    let code = code-listed v c.args.gone h c.requires.next.within in
    let w = c.blocked_by.result in
    let there : has_lit (lits_of v.trail.entries) c.in-Holds.other ≡ true = subst (λ (z : List Lit). has_lit z c.in-Holds.other ≡ true) known c.in-Holds.ensures.1 in
    let held : IsWatchHeld v w = subst (λ (n : ℕ). HasTrue (lits_of v.trail.entries) (clause_of v.trail.clauses.list (n - 1))) (sym c.blocked_by.ensures.same.0) (c.in-Holds.other, has, there) in
    subst (λ (x : WatchView). AreHeld x c.args.gone (c.args.at + 1) × (length (watches_at x.lists c.args.gone) ≡ length (watches_at v.lists c.args.gone))) (sym c.put.ensures)
    (held-put v c.args.gone c.args.at w code c.requires.next.next.held c.requires.next.next.place held, length-put v c.args.gone c.args.at w code)

pub keep_watch-requires-clause-other : goal.keep_watch-requires-clause-other
keep_watch-requires-clause-other c =
    let v = c.args.watching.now in
    let f = c.requires.next.next.fits in
    let h = c.plain.ensures.watch_invariant in
    let clause = clause_of v.trail.clauses.list (c.args.watch.clause - 1) in
    let read : c.get-clause.result.now ≡ clause_of v.trail.clauses.list (c.args.watch.clause - 1) = c.get-clause.ensures.at ∙ ap (λ (z : Clauses). clause_of z.list (c.args.watch.clause - 1)) c.clauses.ensures.clauses ∙ ap (λ (t : TrailView). clause_of t.clauses.list (c.args.watch.clause - 1)) c.plain.ensures.plain in
    let first = f.from_one in
    let last = f.to_last in
    let within : LitsWithin v.trail.clauses.vars clause = h.within (c.args.watch.clause - 1) [] (omega arith) in
    let has : has_lit clause c.in-Leaves.other ≡ true = subst (λ (z : List Lit). has_lit z c.in-Leaves.other ≡ true) read c.in-Leaves.ensures.0.has in
    within-has v.trail.clauses.vars clause c.in-Leaves.other within has

pub returns-in-Lost-clause-met : goal.returns-in-Lost-clause-met
returns-in-Lost-clause-met c =
    let s = c.in_ok-defer_clause-in-Lost.ensures.shrinks in
    (held-shrunk c.args.watching.now c.defer_clause.new.self c.args.gone c.args.at s c.requires.next.next.held, s.left)
