-- One more literal.
use Rattle.std.proofs.Common.{◌∙◌, ap, refl}
use Rattle.rup_check.specs.KnownLiterals.{is_lit_within}
use Rattle.cert_types.proofs.UseLemmas.{counted-end, counted-start, counted-step}
use Rattle.cert_types.proofs.uses.Uses.count_all.Goals as goal

pub loop-lit-init : goal.loop-lit-init
loop-lit-init c = record { vars = refl; counted = λ l t w e. counted-start c.args.self.now c.args.lits l t e }

pub loop-lit-preserved : goal.loop-lit-preserved
loop-lit-preserved c = record {
  vars = c.count.ensures.vars ∙ c.loop-lit.invariant.vars;
  counted = λ l t w e.
      counted-step c.loop-lit.self c.count.new.self c.loop-lit.left c.next.new.self c.args.lits c.in-Some.lit l t c.in-Some.ensures
      (c.count.ensures.counted l (ap (λ v. is_lit_within v l) c.loop-lit.invariant.vars ∙ w)) (c.loop-lit.invariant.counted l t w e);
}

pub returns-clause-counted : goal.returns-clause-counted
returns-clause-counted c = λ l t w e.
    counted-end c.loop-lit.self c.loop-lit.left c.args.lits l t c.in_default.ensures.0 (c.loop-lit.invariant.counted l t w e)
