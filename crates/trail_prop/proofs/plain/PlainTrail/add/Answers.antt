use Rattle.std.proofs.Common.{ap, ◌∙◌, sym, subst, ◌∷◌, []}
use Rattle.std.proofs.lemmas.List.Elements.{All-push}
use Rattle.clause_db.specs.Clauses.{Clauses, ClausesWithin}
use Rattle.trail_prop.specs.Open.{LitsWithin}
use Rattle.trail_prop.specs.Trails.{TrailView}
use Rattle.trail_prop.proofs.Trailing.{fits-add}
use Rattle.trail_prop.proofs.plain.PlainTrail.add.Goals as goal

pub invariant_of-self-2 : goal.invariant_of-self-2
invariant_of-self-2 c =
    let e = c.in_ok-add.ensures.added in
    let before = c.self.inside.clauses in
    let held = c.self.invariant in
    let req : LitsWithin before.vars c.args.clause.now = subst (λ (v : TrailView). LitsWithin v.clauses.vars c.args.clause.now) (sym c.self.view_is) c.requires in
    record {
      same_vars = ap (λ (v : Clauses). v.vars) e ∙ held.same_vars;
      within = subst (λ (v : Clauses). ClausesWithin v.vars v.list) (sym e) (All-push (LitsWithin before.vars) before.list c.args.clause.now held.within req);
      trail = fits-add before c.add.new.self (c.args.clause.now ∷ []) [] c.self.inside.assigned.entries (ap (λ (v : Clauses). v.vars) e) (ap (λ (v : Clauses). v.list) e) held.trail;
      levels = held.levels;
      small = held.small;
    }
