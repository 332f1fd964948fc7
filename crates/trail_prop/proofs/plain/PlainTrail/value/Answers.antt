use Rattle.std.proofs.Common.{[], ◌≡◌, arith, sym, subst, None}
use Rattle.trail_prop.specs.Open.{value_known}
use Rattle.trail_prop.specs.Entries.{lits_of}
use Rattle.trail_prop.specs.Trails.{TrailView}
use Rattle.trail_prop.proofs.Opening.{no-value}
use Rattle.trail_prop.proofs.Trailing.{fits-opens}
use Rattle.trail_prop.proofs.plain.PlainTrail.value.Goals as goal
use Rattle.trail_prop.proofs.plain.PlainTrail.value.Goals.{then-var-eq0-via-then-var-eq0, then-var-eq0-via-else-var-eq0+then-var-vars}

pub returns-then-var-eq0 : goal.returns-then-var-eq0
returns-then-var-eq0 c =
    let o = fits-opens c.self.inside.clauses [] c.self.inside.assigned.entries c.self.invariant.trail in
    let s = c.self.invariant.same_vars in
    elim c.then-var-eq0.branch [
      | then-var-eq0-via-then-var-eq0 w ↦ subst (λ (v : TrailView). None ≡ value_known (lits_of v.entries) c.args.var) c.self.view_is (sym (no-value c.self.inside.clauses.vars c.self.inside.assigned.entries c.args.var o (λ l m. omega arith)))
      | then-var-eq0-via-else-var-eq0+then-var-vars w ↦ subst (λ (v : TrailView). None ≡ value_known (lits_of v.entries) c.args.var) c.self.view_is (sym (no-value c.self.inside.clauses.vars c.self.inside.assigned.entries c.args.var o (λ l m. omega arith)))
    ]
