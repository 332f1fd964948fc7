-- The step is the one with this number.
use Rattle.std.proofs.Common.{◌∙◌, [], ap, sym, unwrap_or}
use Rattle.undecided_tests.proofs.StepReplayLemmas.{named-none, named-some}
use Rattle.undecided_tests.proofs.step_replay.fit_named.Goals as goal

pub returns-in_default : goal.returns-in_default
returns-in_default c = sym (named-none c.args.steps.now c.args.number c.if-number-eq0.false c.in_default.ensures.lookup.3)

pub returns : goal.returns
returns c =
    ap (λ o. unwrap_or o []) c.fit_of.ensures
    ∙ sym (named-some c.args.steps.now c.args.number c.in-Some.step.now c.if-number-eq0.false c.in-Some.ensures.lookup.3.0 c.in-Some.ensures.lookup.1)
