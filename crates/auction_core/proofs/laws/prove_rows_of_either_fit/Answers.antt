-- Both sides compute to the same value.
use Rattle.std.proofs.Common.{refl}
use Rattle.pack_defs.specs.Examples.{three_stations, three_bids}
use Rattle.pack_defs.specs.ResultRows.{result_rows}
use Rattle.assign_check.specs.Fault.{first_fault}
use Rattle.cnf_encode.specs.Formula.{packing_formula}
use Rattle.rup_check.specs.Follows.{line_fault}
use Rattle.cert_types.specs.Valid.{answer_fault}
use Rattle.pack_defs.specs.Components.{component}
use Rattle.auction_core.specs.State.{opening, task_of}
use Rattle.auction_core.specs.Take.{take}
use Rattle.auction_core.proofs.laws.prove_rows_of_either_fit.Goals as goal

pub returns-clause-one : goal.returns-clause-one
unfolding take task_of opening component answer_fault first_fault packing_formula line_fault three_stations three_bids result_rows
returns-clause-one c = refl

pub returns-clause-other : goal.returns-clause-other
unfolding take task_of opening component answer_fault first_fault packing_formula line_fault three_stations three_bids result_rows
returns-clause-other c = refl

pub returns-clause-map : goal.returns-clause-map
unfolding take task_of opening component answer_fault first_fault packing_formula line_fault three_stations three_bids result_rows
returns-clause-map c = refl
