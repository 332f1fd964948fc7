-- Each side computes.
use Rattle.std.proofs.Common.{refl}
use Rattle.pack_defs.specs.Examples.{one_channel, three_stations}
use Rattle.assign_check.specs.Fault.{first_fault}
use Rattle.cnf_encode.specs.Formula.{packing_formula}
use Rattle.rup_check.specs.Follows.{line_fault}
use Rattle.cert_types.specs.Valid.{answer_fault}
use Rattle.cert_types.proofs.laws.prove_answers_of_three_stations.Goals as goal

pub returns-clause-proof : goal.returns-clause-proof
unfolding answer_fault first_fault packing_formula line_fault three_stations
returns-clause-proof c = refl

pub returns-clause-out_of_turn : goal.returns-clause-out_of_turn
unfolding answer_fault first_fault packing_formula line_fault three_stations
returns-clause-out_of_turn c = refl

pub returns-clause-spent : goal.returns-clause-spent
unfolding answer_fault first_fault packing_formula line_fault three_stations
returns-clause-spent c = refl

pub returns-clause-violates : goal.returns-clause-violates
unfolding answer_fault first_fault packing_formula line_fault three_stations
returns-clause-violates c = refl

pub returns-clause-missing : goal.returns-clause-missing
unfolding answer_fault first_fault packing_formula line_fault three_stations
returns-clause-missing c = refl

pub returns-clause-not_fresh : goal.returns-clause-not_fresh
unfolding answer_fault first_fault packing_formula line_fault three_stations
returns-clause-not_fresh c = refl

pub returns-clause-said_again : goal.returns-clause-said_again
unfolding answer_fault first_fault packing_formula line_fault three_stations
returns-clause-said_again c = refl

pub returns-clause-walked : goal.returns-clause-walked
unfolding answer_fault first_fault packing_formula line_fault three_stations
returns-clause-walked c = refl

pub returns-clause-moved_nowhere : goal.returns-clause-moved_nowhere
unfolding answer_fault first_fault packing_formula line_fault three_stations
returns-clause-moved_nowhere c = refl

pub returns-clause-no_violation : goal.returns-clause-no_violation
unfolding answer_fault first_fault packing_formula line_fault three_stations
returns-clause-no_violation c = refl

pub returns-clause-kind : goal.returns-clause-kind
unfolding answer_fault first_fault packing_formula line_fault three_stations
returns-clause-kind c = refl

pub returns-clause-repaired : goal.returns-clause-repaired
unfolding answer_fault first_fault packing_formula line_fault three_stations
returns-clause-repaired c = refl

pub returns-clause-alive : goal.returns-clause-alive
unfolding answer_fault first_fault packing_formula line_fault three_stations
returns-clause-alive c = refl

pub returns-clause-dead : goal.returns-clause-dead
unfolding answer_fault one_channel
returns-clause-dead c = refl
