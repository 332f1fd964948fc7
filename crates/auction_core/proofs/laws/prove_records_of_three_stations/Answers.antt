-- Both sides compute to the same value.
use Rattle.std.proofs.Common.{refl}
use Rattle.pack_defs.specs.Examples.{three_stations, three_bids}
use Rattle.assign_check.specs.Fault.{first_fault}
use Rattle.cnf_encode.specs.Formula.{packing_formula}
use Rattle.rup_check.specs.Follows.{line_fault}
use Rattle.cert_types.specs.Valid.{answer_fault}
use Rattle.pack_defs.specs.Components.{component}
use Rattle.auction_core.specs.State.{opening, task_of}
use Rattle.auction_core.specs.Take.{take}
use Rattle.auction_core.proofs.laws.prove_records_of_three_stations.Goals as goal

pub returns-clause-decided : goal.returns-clause-decided
unfolding take task_of opening component answer_fault first_fault packing_formula line_fault three_stations three_bids
returns-clause-decided c = refl

pub returns-clause-none_undecided : goal.returns-clause-none_undecided
unfolding take task_of opening component answer_fault first_fault packing_formula line_fault three_stations three_bids
returns-clause-none_undecided c = refl

pub returns-clause-undecided : goal.returns-clause-undecided
unfolding take task_of opening component answer_fault first_fault packing_formula line_fault three_stations three_bids
returns-clause-undecided c = refl

pub returns-clause-map : goal.returns-clause-map
unfolding take task_of opening component answer_fault first_fault packing_formula line_fault three_stations three_bids
returns-clause-map c = refl
