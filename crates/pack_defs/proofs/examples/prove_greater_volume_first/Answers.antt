use Rattle.std.proofs.Common.{refl}
use Rattle.pack_defs.specs.Packing.{assignments, is_apart, fits}
use Rattle.pack_defs.specs.ClockRule.{clock_rule}
use Rattle.pack_defs.specs.ResultRows.{result_rows}
use Rattle.pack_defs.specs.Threshold.{wins}
use Rattle.pack_defs.specs.Examples.{three_stations, three_bids, three_bids_by_volume, rows_of}
use Rattle.pack_defs.proofs.examples.prove_greater_volume_first.Goals as goal

pub returns-clause-volume : goal.returns-clause-volume
unfolding rows_of three_bids_by_volume three_bids three_stations result_rows clock_rule fits assignments is_apart
returns-clause-volume c = refl

pub returns-clause-facility : goal.returns-clause-facility
unfolding rows_of three_bids_by_volume three_bids three_stations result_rows clock_rule fits assignments is_apart
returns-clause-facility c = refl

pub returns-clause-wins : goal.returns-clause-wins
unfolding wins three_bids_by_volume three_bids three_stations clock_rule fits assignments is_apart
returns-clause-wins c = refl

pub returns-clause-loses : goal.returns-clause-loses
unfolding wins three_bids_by_volume three_bids three_stations clock_rule fits assignments is_apart
returns-clause-loses c = refl
