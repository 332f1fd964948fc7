-- Both sides compute to the same value.
use Rattle.std.proofs.Common.{refl}
use Rattle.pack_defs.specs.Examples.{lone_bid}
use Rattle.assign_check.specs.Fault.{first_fault}
use Rattle.cert_types.specs.Valid.{answer_fault}
use Rattle.pack_defs.specs.Components.{component}
use Rattle.auction_core.specs.State.{opening, task_of}
use Rattle.auction_core.specs.Take.{take}
use Rattle.auction_core.specs.Examples.{one_of_five}
use Rattle.auction_core.proofs.laws.prove_settled_in_sequence.Goals as goal

pub returns-clause-before : goal.returns-clause-before
unfolding take task_of opening component answer_fault first_fault one_of_five lone_bid
returns-clause-before c = refl

pub returns-clause-query : goal.returns-clause-query
unfolding take task_of opening component answer_fault first_fault one_of_five lone_bid
returns-clause-query c = refl

pub returns-clause-last : goal.returns-clause-last
unfolding take task_of opening component answer_fault first_fault one_of_five lone_bid
returns-clause-last c = refl

pub returns-clause-after : goal.returns-clause-after
unfolding take task_of opening component answer_fault first_fault one_of_five lone_bid
returns-clause-after c = refl

pub returns-clause-map : goal.returns-clause-map
unfolding take task_of opening component answer_fault first_fault one_of_five lone_bid
returns-clause-map c = refl

pub returns-clause-total : goal.returns-clause-total
unfolding take task_of opening component answer_fault first_fault one_of_five lone_bid
returns-clause-total c = refl
