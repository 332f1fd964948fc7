-- Both sides compute to the same value.
use Rattle.std.proofs.Common.{refl}
use Rattle.pack_defs.specs.Examples.{three_stations, three_bids}
use Rattle.assign_check.specs.Fault.{first_fault}
use Rattle.cert_types.specs.Valid.{answer_fault}
use Rattle.pack_defs.specs.Components.{component}
use Rattle.auction_core.specs.State.{opening, task_of}
use Rattle.auction_core.specs.Take.{take}
use Rattle.auction_core.proofs.laws.prove_same_test_needs_no_query.Goals as goal

pub returns-clause-number : goal.returns-clause-number
unfolding take task_of opening component answer_fault first_fault three_stations three_bids
returns-clause-number c = refl

pub returns-clause-steps : goal.returns-clause-steps
unfolding take task_of opening component answer_fault first_fault three_stations three_bids
returns-clause-steps c = refl

pub returns-clause-map : goal.returns-clause-map
unfolding take task_of opening component answer_fault first_fault three_stations three_bids
returns-clause-map c = refl

pub returns-clause-standing : goal.returns-clause-standing
unfolding take task_of opening component answer_fault first_fault three_stations three_bids
returns-clause-standing c = refl
