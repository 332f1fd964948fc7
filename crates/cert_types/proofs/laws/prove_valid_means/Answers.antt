-- By the lemmas, in both directions.
use Rattle.cert_types.proofs.Meaning.{fit-means, means-fit, proof-means, means-proof, dead-means, means-dead, lines-means, means-lines, moves-means, means-moves}
use Rattle.cert_types.proofs.Outsiders.{outside-means, means-outside}
use Rattle.cert_types.proofs.laws.prove_valid_means.Goals as goal

pub returns-clause-fit : goal.returns-clause-fit
returns-clause-fit c book task worker delta = (λ e. fit-means book task worker delta e, λ h. means-fit book task worker delta h)

pub returns-clause-proof : goal.returns-clause-proof
returns-clause-proof c book task worker subset log = (λ e. proof-means book task worker subset log e, λ h. means-proof book task worker subset log h)

pub returns-clause-dead : goal.returns-clause-dead
returns-clause-dead c book task worker p = (λ e. dead-means book task worker p e, λ h. means-dead book task worker p h)

pub returns-clause-lines : goal.returns-clause-lines
returns-clause-lines c book task worker log = (λ e. lines-means book task worker log e, λ h. means-lines book task worker log h)

pub returns-clause-moves : goal.returns-clause-moves
returns-clause-moves c book task worker moves = (λ e. moves-means book task worker moves e, λ h. means-moves book task worker moves h)

pub returns-clause-outside : goal.returns-clause-outside
returns-clause-outside c book set proof = (λ e. outside-means book set proof e, λ h. means-outside book set proof h)
