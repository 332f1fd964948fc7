use Rattle.auction_core.proofs.FirstSteps.{cut-same, cut-there-too}
use Rattle.auction_core.proofs.prefix_laws.prove_error_of_first_steps.Goals as goal

pub returns-clause-same : goal.returns-clause-same
returns-clause-same c = cut-same

pub returns-clause-there : goal.returns-clause-there
returns-clause-there c = cut-there-too
