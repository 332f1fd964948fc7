use Rattle.std.proofs.Common.{◌+◌, ◌-◌, ◌<◌, Some, None, length, sym, subst}
use Rattle.clause_db.specs.Clauses.{Clauses}
use Rattle.trail_prop.specs.Entries.{lits_of, level_of}
use Rattle.trail_prop.specs.Trails.{TrailView}
use Rattle.cdcl_prove.specs.Derivation.{clauses_of}
use Rattle.cdcl_prove.specs.Guide.{PickIs}
use Rattle.cdcl_prove.proofs.SearchLemmas.{decision-smaller, trail-of}
use Rattle.cdcl_prove.proofs.search.Search.descend.Goals as goal

pub decisions-smaller : goal.decisions-smaller
decisions-smaller c =
    let trail = trail-of c.trail-trail.result.now (clauses_of c.propagate.new.self) c.propagate.new.self.entries c.trail-trail.ensures c.keeps_reasons.ensures in
    let pick = subst (λ (v : TrailView). PickIs v.clauses.vars (lits_of v.entries) (Some c.in-Some-pick.lit)) c.trail.ensures c.in-Some-pick.ensures in
    let less = decision-smaller (clauses_of c.propagate.new.self) c.decisions.self.derivation.entries c.propagate.new.self.entries c.decide.new.self.entries
    (record { lit = c.in-Some-pick.lit; level = level_of c.propagate.new.self.entries + 1; reason = None })
    trail pick.0 pick.1 c.in_ok-conflict.ensures.grows c.decide.ensures.entries in
    subst (λ (f : Clauses). f.vars - length c.decide.new.self.entries < c.decisions.self.derivation.formula.vars - length c.decisions.self.derivation.entries) (sym c.decide.ensures.formula)
    (subst (λ (f : Clauses). c.propagate.new.self.formula.vars - length c.decide.new.self.entries < f.vars - length c.decisions.self.derivation.entries) c.in_ok-conflict.ensures.formula less)
