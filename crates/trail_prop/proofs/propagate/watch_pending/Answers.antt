use Rattle.std.proofs.Common.{◌≡◌, ◌-◌, ◌≤◌, List, sym, ap, ◌∙◌, subst}
use Rattle.std.specs.List.{All}
use Rattle.clause_db.specs.declared.lit.Lit.{Lit}
use Rattle.clause_db.specs.Clauses.{Clauses}
use Rattle.trail_prop.specs.declared.entry.TrailEntry.{TrailEntry}
use Rattle.trail_prop.specs.Entries.{lits_of, level_of, Assigned}
use Rattle.trail_prop.specs.Trails.{TrailView}
use Rattle.trail_prop.specs.Watching.{HasTrue, clause_of}
use Rattle.trail_prop.proofs.Meeting.{fixed-first}
use Rattle.trail_prop.proofs.propagate.watch_pending.Goals as goal

pub retire_clause-requires-clause-fixed : goal.retire_clause-requires-clause-fixed
retire_clause-requires-clause-fixed c =
    let v = c.args.watching.now in
    let n = c.waiting-number.result in
    let t : HasTrue (lits_of c.assigned.result.now.entries) c.get-clause.result.now = c.has_true.ensures c.if-has_true.true in
    let read : c.get-clause.result.now ≡ clause_of v.trail.clauses.list (n - 1) = c.get-clause.ensures.at ∙ ap (λ (z : Clauses). clause_of z.list (n - 1)) c.clauses.ensures.clauses ∙ ap (λ (t : TrailView). clause_of t.clauses.list (n - 1)) c.plain-plain.ensures.plain in
    let known : lits_of c.assigned.result.now.entries ≡ lits_of v.trail.entries = ap (λ (a : Assigned). lits_of a.entries) c.assigned.ensures ∙ ap (λ (t : TrailView). lits_of t.entries) c.plain-plain.ensures.plain in
    let t' : HasTrue (lits_of v.trail.entries) (clause_of v.trail.clauses.list (n - 1)) = subst (λ (z : List Lit). HasTrue z (clause_of v.trail.clauses.list (n - 1))) known (subst (λ (z : List Lit). HasTrue (lits_of c.assigned.result.now.entries) z) read t) in
    let none : level_of v.trail.entries ≡ 0 = sym (c.level.ensures.level ∙ ap (λ (t : TrailView). level_of t.entries) c.plain-plain.ensures.plain) ∙ c.if-level-eq0.true in
    let top = subst (λ (t : TrailView). All (λ (e : TrailEntry). e.level ≤ level_of t.entries) t.entries) c.plain-plain.ensures.plain c.level.ensures.top in
    fixed-first v.trail.entries (clause_of v.trail.clauses.list (n - 1)) (level_of v.trail.entries) none top t'
