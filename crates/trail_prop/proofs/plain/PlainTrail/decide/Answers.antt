use Rattle.std.proofs.Common.{ℕ, ◌≡◌, ◌+◌, sym, subst, arith, true, None}
use Rattle.clause_db.specs.Clauses.{LitWithin}
use Rattle.trail_prop.specs.Open.{is_open, value_known}
use Rattle.trail_prop.specs.Entries.{lits_of, Assigned}
use Rattle.trail_prop.specs.Trails.{TrailHolds, TrailView}
use Rattle.trail_prop.proofs.Opening.{none-opens}
use Rattle.trail_prop.proofs.Trailing.{holds-after, decision-fits, few-levels}
use Rattle.trail_prop.proofs.plain.PlainTrail.decide.Goals as goal

pub overflow_add-self : goal.overflow_add-self
overflow_add-self c =
    let w : LitWithin c.self.inside.clauses.vars c.args.lit = subst (λ (v : TrailView). LitWithin v.clauses.vars c.args.lit) (sym c.self.view_is) c.requires.within in
    let o : is_open (lits_of c.self.inside.assigned.entries) c.args.lit ≡ true = none-opens (lits_of c.self.inside.assigned.entries) c.args.lit (subst (λ (v : TrailView). value_known (lits_of v.entries) c.args.lit.var ≡ None) (sym c.self.view_is) c.requires.opens) in
    let f = few-levels c.self.inside.clauses c.self.inside.assigned.vars c.self.inside.assigned.entries c.self.inside.level c.args.lit c.self.invariant w o in
    omega (arith, f)

pub invariant_of-self : goal.invariant_of-self
invariant_of-self c =
    let w : LitWithin c.self.inside.clauses.vars c.args.lit = subst (λ (v : TrailView). LitWithin v.clauses.vars c.args.lit) (sym c.self.view_is) c.requires.within in
    let o : is_open (lits_of c.self.inside.assigned.entries) c.args.lit ≡ true = none-opens (lits_of c.self.inside.assigned.entries) c.args.lit (subst (λ (v : TrailView). value_known (lits_of v.entries) c.args.lit.var ≡ None) (sym c.self.view_is) c.requires.opens) in
    let f = decision-fits c.self.inside.clauses c.self.inside.assigned.entries c.args.lit c.self.inside.level c.self.invariant.levels w o in
    subst (λ (a : Assigned). TrailHolds c.self.inside.clauses a.vars a.entries (c.self.inside.level + 1)) (sym c.push.ensures)
    (holds-after c.self.inside.clauses c.self.inside.assigned.vars c.self.inside.assigned.entries c.self.inside.level (c.self.inside.level + 1) (record { lit = c.args.lit; level = c.self.inside.level + 1; reason = None }) c.self.invariant f f.levels)

pub push-requires : goal.push-requires
push-requires c =
    let w : LitWithin c.self.inside.clauses.vars c.args.lit = subst (λ (v : TrailView). LitWithin v.clauses.vars c.args.lit) (sym c.self.view_is) c.requires.within in
    let o : is_open (lits_of c.self.inside.assigned.entries) c.args.lit ≡ true = none-opens (lits_of c.self.inside.assigned.entries) c.args.lit (subst (λ (v : TrailView). value_known (lits_of v.entries) c.args.lit.var ≡ None) (sym c.self.view_is) c.requires.opens) in
    record { within = subst (λ (n : ℕ). LitWithin n c.args.lit) c.self.invariant.same_vars w; opens = o }
