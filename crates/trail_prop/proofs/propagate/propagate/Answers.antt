use Rattle.std.proofs.Common.{◌∙◌}
use Rattle.trail_prop.proofs.Trailing.{grows-trans}
use Rattle.trail_prop.proofs.propagate.propagate.Goals as goal

pub returns-in_err-conflict-clause-grows : goal.returns-in_err-conflict-clause-grows
returns-in_err-conflict-clause-grows c = grows-trans _ _ _ c.loop-conflict.invariant.grows c.in_err-conflict.ensures.grows

pub returns-in-Found-clause-grows : goal.returns-in-Found-clause-grows
returns-in-Found-clause-grows c = grows-trans _ _ _ c.loop-conflict.invariant.grows c.in_ok-conflict.ensures.grows

pub returns-in-Quiet-clause-grows : goal.returns-in-Quiet-clause-grows
returns-in-Quiet-clause-grows c = grows-trans _ _ _ c.loop-conflict.invariant.grows c.in_ok-conflict.ensures.grows

pub loop-conflict-preserved : goal.loop-conflict-preserved
loop-conflict-preserved c = record { clauses = c.in_ok-conflict.ensures.clauses ∙ c.loop-conflict.invariant.clauses; grows = grows-trans _ _ _ c.loop-conflict.invariant.grows c.in_ok-conflict.ensures.grows }
