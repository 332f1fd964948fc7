-- By the lemmas, in both directions.
use Rattle.cert_types.proofs.SpentLaws.{lines-spent, spent-lines, moves-spent, spent-moves}
use Rattle.cert_types.proofs.laws.prove_receipts_are_spent.Goals as goal

pub returns-clause-lines : goal.returns-clause-lines
returns-clause-lines c vars clauses place lines =
    (λ e. lines-spent vars clauses place lines e, λ h. spent-lines vars clauses place lines h)

pub returns-clause-moves : goal.returns-clause-moves
returns-clause-moves c book entries place moves =
    (λ e. moves-spent book entries place moves e, λ h. spent-moves book entries place moves h)
