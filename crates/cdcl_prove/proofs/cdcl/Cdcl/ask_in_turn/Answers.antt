-- What a quick fit found is valid.
use Rattle.cert_types.specs.Valid.{answer_fault}
use Rattle.cdcl_prove.proofs.cdcl.Cdcl.ask_in_turn.Goals as goal

pub returns-in-Some-clause-said : goal.returns-in-Some-clause-said
unfolding answer_fault
returns-in-Some-clause-said g c = rw c.in-Some.is at c.in_ok-fit.ensures.fits
