-- Both sides compute to the same value.
use Rattle.std.proofs.Common.{refl}
use Rattle.pack_defs.specs.Examples.{three_stations, three_bids, lone_station, lone_bid}
use Rattle.assign_check.specs.Fault.{first_fault}
use Rattle.cnf_encode.specs.Formula.{packing_formula}
use Rattle.rup_check.specs.Follows.{line_fault}
use Rattle.cert_types.specs.Valid.{answer_fault}
use Rattle.pack_defs.specs.Components.{component}
use Rattle.auction_core.specs.State.{opening, task_of}
use Rattle.auction_core.specs.Take.{take}
use Rattle.auction_core.proofs.laws.prove_auctions_without_a_query.Goals as goal

pub returns-clause-none : goal.returns-clause-none
unfolding take task_of opening component answer_fault first_fault packing_formula line_fault three_stations three_bids lone_station lone_bid
returns-clause-none c = refl

pub returns-clause-none_total : goal.returns-clause-none_total
unfolding take task_of opening component answer_fault first_fault packing_formula line_fault three_stations three_bids lone_station lone_bid
returns-clause-none_total c = refl

pub returns-clause-bare : goal.returns-clause-bare
unfolding take task_of opening component answer_fault first_fault packing_formula line_fault three_stations three_bids lone_station lone_bid
returns-clause-bare c = refl

pub returns-clause-bare_steps : goal.returns-clause-bare_steps
unfolding take task_of opening component answer_fault first_fault packing_formula line_fault three_stations three_bids lone_station lone_bid
returns-clause-bare_steps c = refl

pub returns-clause-bare_total : goal.returns-clause-bare_total
unfolding take task_of opening component answer_fault first_fault packing_formula line_fault three_stations three_bids lone_station lone_bid
returns-clause-bare_total c = refl
