-- Both sides compute to the same value.
use Rattle.std.proofs.Common.{refl}
use Rattle.pack_defs.specs.Examples.{three_stations, three_bids}
use Rattle.assign_check.specs.Fault.{first_fault}
use Rattle.cnf_encode.specs.Formula.{packing_formula}
use Rattle.rup_check.specs.Follows.{line_fault}
use Rattle.cert_types.specs.Valid.{answer_fault}
use Rattle.pack_defs.specs.Components.{component}
use Rattle.auction_core.specs.State.{opening, task_of}
use Rattle.auction_core.specs.Take.{take}
use Rattle.auction_core.proofs.laws.prove_old_answer_is_wrong_query.Goals as goal

pub returns-clause-fourth : goal.returns-clause-fourth
unfolding take task_of opening component answer_fault first_fault packing_formula line_fault three_stations three_bids
returns-clause-fourth c = refl

pub returns-clause-wrong_query : goal.returns-clause-wrong_query
unfolding take task_of opening component answer_fault first_fault packing_formula line_fault three_stations three_bids
returns-clause-wrong_query c = refl

pub returns-clause-last : goal.returns-clause-last
unfolding take task_of opening component answer_fault first_fault packing_formula line_fault three_stations three_bids
returns-clause-last c = refl

pub returns-clause-ended : goal.returns-clause-ended
unfolding take task_of opening component answer_fault first_fault packing_formula line_fault three_stations three_bids
returns-clause-ended c = refl

pub returns-clause-number : goal.returns-clause-number
unfolding take task_of opening component answer_fault first_fault packing_formula line_fault three_stations three_bids
returns-clause-number c = refl
