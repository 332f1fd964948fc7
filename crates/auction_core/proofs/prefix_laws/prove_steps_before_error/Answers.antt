use Rattle.auction_core.proofs.FirstSteps.{before-certified, cut-before}
use Rattle.auction_core.proofs.prefix_laws.prove_steps_before_error.Goals as goal

pub returns-clause-kept : goal.returns-clause-kept
returns-clause-kept c = cut-before

pub returns-clause-certified : goal.returns-clause-certified
returns-clause-certified c = before-certified
