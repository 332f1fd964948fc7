-- Both sides compute to the same value.
use Rattle.std.proofs.Common.{refl}
use Rattle.pack_defs.specs.Examples.{three_stations, three_bids}
use Rattle.assign_check.specs.Fault.{first_fault}
use Rattle.cnf_encode.specs.Formula.{packing_formula}
use Rattle.rup_check.specs.Follows.{line_fault}
use Rattle.cert_types.specs.Valid.{answer_fault}
use Rattle.pack_defs.specs.Components.{component}
use Rattle.auction_core.specs.State.{opening, task_of}
use Rattle.auction_core.specs.Take.{take}
use Rattle.auction_core.proofs.laws.prove_each_reply.Goals as goal

pub returns : goal.returns
unfolding take task_of opening component answer_fault first_fault packing_formula line_fault three_stations three_bids
returns c = refl
