use Rattle.std.proofs.Common.{◌∙◌}
use Rattle.cdcl_prove.proofs.AnswerLemmas.{receipt-valid}
use Rattle.cdcl_prove.proofs.answers.receipt.Goals as goal

pub returns : goal.returns
returns c book task worker learner formula whole =
    receipt-valid book task worker c.args.derivation.formula c.args.derivation.lines (record { lines = c.fitted.result }) learner formula c.into_lines.ensures.spent whole (c.fitted.ensures ∙ c.into_lines.ensures.lines)
