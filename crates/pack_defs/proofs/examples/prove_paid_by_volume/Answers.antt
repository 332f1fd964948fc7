use Rattle.std.proofs.Common.{refl}
use Rattle.pack_defs.specs.Examples.{one_channel, two_bids, rows_of}
use Rattle.pack_defs.specs.ClockRule.{clock_rule}
use Rattle.pack_defs.specs.Packing.{fits, assignments, is_apart}
use Rattle.pack_defs.specs.ResultRows.{result_rows}
use Rattle.pack_defs.proofs.examples.prove_paid_by_volume.Goals as goal

pub returns : goal.returns
unfolding one_channel two_bids rows_of clock_rule fits assignments is_apart result_rows
returns c = refl
