-- By the lemmas.
use Rattle.cert_types.proofs.Refuting.{refuted-unfit, subset-fits}
use Rattle.cert_types.proofs.laws.prove_refuted_does_not_fit.Goals as goal

pub returns-clause-subset : goal.returns-clause-subset
returns-clause-subset c book set subset order a r f = refuted-unfit book subset order r (subset-fits book set subset a f)

pub returns-clause-whole : goal.returns-clause-whole
returns-clause-whole c book set order r f = refuted-unfit book set order r f
