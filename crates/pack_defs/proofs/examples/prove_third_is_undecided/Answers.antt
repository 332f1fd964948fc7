use Rattle.std.proofs.Common.{refl}
use Rattle.pack_defs.specs.Examples.{three_stations, three_bids, rows_of, lone_station, lone_bid}
use Rattle.pack_defs.specs.ClockRule.{clock_rule, asked_tests}
use Rattle.pack_defs.specs.Packing.{fits, assignments, is_apart}
use Rattle.pack_defs.specs.ResultRows.{result_rows}
use Rattle.pack_defs.specs.Threshold.{wins}
use Rattle.pack_defs.proofs.examples.prove_third_is_undecided.Goals as goal

pub returns : goal.returns
unfolding three_stations three_bids rows_of lone_station lone_bid clock_rule asked_tests fits assignments is_apart result_rows wins
returns c = refl
