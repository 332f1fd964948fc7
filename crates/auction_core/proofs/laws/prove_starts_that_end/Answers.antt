-- Both sides compute to the same value.
use Rattle.std.proofs.Common.{refl}
use Rattle.pack_defs.specs.Examples.{three_stations, three_bids, lone_station, lone_bid}
use Rattle.assign_check.specs.Fault.{first_fault}
use Rattle.cnf_encode.specs.Formula.{packing_formula}
use Rattle.rup_check.specs.Follows.{line_fault}
use Rattle.cert_types.specs.Valid.{answer_fault}
use Rattle.pack_defs.specs.Components.{component}
use Rattle.auction_core.specs.State.{opening, task_of}
use Rattle.auction_core.specs.Take.{take}
use Rattle.auction_core.proofs.laws.prove_starts_that_end.Goals as goal

pub returns-clause-refuted : goal.returns-clause-refuted
unfolding take task_of opening component answer_fault first_fault packing_formula line_fault three_stations three_bids lone_station lone_bid
returns-clause-refuted c = refl

pub returns-clause-refuted_so : goal.returns-clause-refuted_so
unfolding take task_of opening component answer_fault first_fault packing_formula line_fault three_stations three_bids lone_station lone_bid
returns-clause-refuted_so c = refl

pub returns-clause-undecided : goal.returns-clause-undecided
unfolding take task_of opening component answer_fault first_fault packing_formula line_fault three_stations three_bids lone_station lone_bid
returns-clause-undecided c = refl

pub returns-clause-undecided_so : goal.returns-clause-undecided_so
unfolding take task_of opening component answer_fault first_fault packing_formula line_fault three_stations three_bids lone_station lone_bid
returns-clause-undecided_so c = refl

pub returns-clause-bare : goal.returns-clause-bare
unfolding take task_of opening component answer_fault first_fault packing_formula line_fault three_stations three_bids lone_station lone_bid
returns-clause-bare c = refl

pub returns-clause-bare_so : goal.returns-clause-bare_so
unfolding take task_of opening component answer_fault first_fault packing_formula line_fault three_stations three_bids lone_station lone_bid
returns-clause-bare_so c = refl
