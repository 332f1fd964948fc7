use Rattle.std.proofs.Common.{◌≡◌, ℕ, ◌-◌, [], true, refl, sym, ap, ◌∙◌, subst, arith}
use Rattle.clause_db.specs.declared.lit.Lit.{Lit}
use Rattle.clause_db.specs.Clause.{has_lit}
use Rattle.clause_db.specs.Clauses.{LitWithin}
use Rattle.trail_prop.specs.Entries.{lits_of, Assigned}
use Rattle.trail_prop.specs.Open.{LitsWithin}
use Rattle.trail_prop.specs.Trails.{TrailView}
use Rattle.trail_prop.specs.Watching.{clause_of, lit_of}
use Rattle.trail_prop.proofs.Meeting.{within-has, held-stays}
use Rattle.trail_prop.proofs.propagate.visit_watch.Goals as goal

pub is_true-requires : goal.is_true-requires
is_true-requires c =
    let v = c.args.watching.now in
    let w = c.watch-watch.result in
    let f = c.watch-watch.ensures.fits in
    let h = c.plain.ensures.watch_invariant in
    let clause = clause_of v.trail.clauses.list (w.clause - 1) in
    let first = f.from_one in
    let last = f.to_last in
    let within : LitsWithin v.trail.clauses.vars clause = h.within (w.clause - 1) [] (omega arith) in
    let lw : LitWithin v.trail.clauses.vars c.blocker-blocker.result = subst (λ (l : Lit). LitWithin v.trail.clauses.vars l) (sym c.blocker-blocker.ensures) (within-has v.trail.clauses.vars clause (lit_of w.blocker) within f.blocks) in
    let vars : v.trail.clauses.vars ≡ c.assigned.result.now.vars = sym (ap (λ (a : Assigned). a.vars) c.assigned.ensures ∙ ap (λ (t : TrailView). t.clauses.vars) c.plain.ensures.plain) in
    subst (λ (n : ℕ). LitWithin n c.blocker-blocker.result) vars lw

pub returns-then-is_true-clause-met : goal.returns-then-is_true-clause-met
returns-then-is_true-clause-met c =
    let v = c.args.watching.now in
    let w = c.watch-watch.result in
    let f = c.watch-watch.ensures.fits in
    let h = c.plain.ensures.watch_invariant in
    let clause = clause_of v.trail.clauses.list (w.clause - 1) in
    let first = f.from_one in
    let last = f.to_last in
    let within : LitsWithin v.trail.clauses.vars clause = h.within (w.clause - 1) [] (omega arith) in
    let lw : LitWithin v.trail.clauses.vars c.blocker-blocker.result = subst (λ (l : Lit). LitWithin v.trail.clauses.vars l) (sym c.blocker-blocker.ensures) (within-has v.trail.clauses.vars clause (lit_of w.blocker) within f.blocks) in
    let known : lits_of c.assigned.result.now.entries ≡ lits_of v.trail.entries = ap (λ (a : Assigned). lits_of a.entries) c.assigned.ensures ∙ ap (λ (t : TrailView). lits_of t.entries) c.plain.ensures.plain in
    let there : has_lit (lits_of v.trail.entries) (lit_of w.blocker) ≡ true = sym (c.is_true.ensures ∙ (λ i. has_lit (known i) (c.blocker-blocker.ensures i))) ∙ c.if-is_true.true in
    (held-stays v c.args.gone c.args.at w c.requires.held c.requires.place c.watch-watch.ensures.watch (lit_of w.blocker, f.blocks, there), refl)

pub force_open-requires-clause-within : goal.force_open-requires-clause-within
force_open-requires-clause-within c =
    let v = c.args.watching.now in
    let w = c.watch-watch.result in
    let f = c.watch-watch.ensures.fits in
    let h = c.plain.ensures.watch_invariant in
    let clause = clause_of v.trail.clauses.list (w.clause - 1) in
    let first = f.from_one in
    let last = f.to_last in
    let within : LitsWithin v.trail.clauses.vars clause = h.within (w.clause - 1) [] (omega arith) in
    let lw : LitWithin v.trail.clauses.vars c.blocker-blocker.result = subst (λ (l : Lit). LitWithin v.trail.clauses.vars l) (sym c.blocker-blocker.ensures) (within-has v.trail.clauses.vars clause (lit_of w.blocker) within f.blocks) in
    lw
