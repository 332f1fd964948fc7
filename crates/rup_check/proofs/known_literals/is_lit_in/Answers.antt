use Rattle.std.proofs.Common.{◌∙◌, sym, ap, false, List}
use Rattle.std.proofs.lemmas.List.{drop_all}
use Rattle.clause_db.specs.declared.lit.Lit.{Lit}
use Rattle.clause_db.specs.Clause.{has_lit}
use Rattle.clause_db.proofs.Literals.{drop-from}
use Rattle.rup_check.proofs.Marking.{eq-same, has-here, has-later}
use Rattle.rup_check.proofs.known_literals.is_lit_in.Goals as goal

pub returns-then-eq : goal.returns-then-eq
returns-then-eq c =
    let split = drop-from c.args.lits.now c.loop-known.known-index (record { var = 0; positive = false }) c.loop-known-test.true in
    sym (sym c.loop-known.invariant ∙ ap (λ (z : List Lit). has_lit z c.args.lit) split ∙ has-here _ _ c.args.lit (sym (eq-same _ c.args.lit) ∙ sym c.eq.ensures ∙ c.if-eq.true))

pub loop-known-preserved : goal.loop-known-preserved
loop-known-preserved c =
    let split = drop-from c.args.lits.now c.loop-known.known-index (record { var = 0; positive = false }) c.loop-known-test.true in
    sym (ap (λ (z : List Lit). has_lit z c.args.lit) split ∙ has-later _ _ c.args.lit (sym (eq-same _ c.args.lit) ∙ sym c.eq.ensures ∙ c.if-eq.false)) ∙ c.loop-known.invariant

pub returns : goal.returns
returns c = ap (λ (z : List Lit). has_lit z c.args.lit) (sym (drop_all c.loop-known.known-index c.args.lits.now c.loop-known-test.false)) ∙ c.loop-known.invariant
