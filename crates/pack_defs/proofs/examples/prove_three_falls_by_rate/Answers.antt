use Rattle.std.proofs.Common.{refl}
use Rattle.pack_defs.specs.Prices.{most_falls}
use Rattle.pack_defs.specs.Packing.{assignments, is_apart, fits}
use Rattle.pack_defs.specs.ClockRule.{clock_rule}
use Rattle.pack_defs.specs.ResultRows.{result_rows}
use Rattle.pack_defs.specs.Examples.{three_stations, three_bids, three_rated_bids, rows_of}
use Rattle.pack_defs.proofs.examples.prove_three_falls_by_rate.Goals as goal

pub returns-clause-prices : goal.returns-clause-prices
unfolding three_rated_bids three_bids most_falls
returns-clause-prices c = refl

pub returns-clause-rows : goal.returns-clause-rows
unfolding rows_of three_rated_bids three_bids three_stations most_falls result_rows clock_rule fits assignments is_apart
returns-clause-rows c = refl
