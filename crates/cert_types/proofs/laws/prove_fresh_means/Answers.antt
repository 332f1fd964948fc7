-- By the lemmas, in both directions.
use Rattle.cert_types.proofs.SpentLaws.{fresh-means, means-fresh}
use Rattle.cert_types.proofs.laws.prove_fresh_means.Goals as goal

pub returns : goal.returns
returns c clauses lits = (λ e. fresh-means clauses lits e, λ h. means-fresh clauses lits h)
