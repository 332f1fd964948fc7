-- Each row is the line of the station at that place.
use Rattle.std.proofs.Common.{None, false}
use Rattle.auction_core.specs.declared.clock.StationStatus.TheVariants.{Active}
use Rattle.result_text.proofs.RowLemmas.{rows_more}
use Rattle.result_text.proofs.rows.stations_csv.Goals as goal

pub rows-preserved : goal.rows-preserved
rows-preserved c = record {
  idle = c.in_ok-write_station_row.ensures.idle;
  text = rw (c.in_ok-write_station_row.ensures.text, c.rows.invariant.text, c.price_in-price.ensures, c.station_statuses.ensures)
      (rows_more c.args.clock.now.paid c.args.stations.now c.args.clock.now.station_statuses c.args.undecided.now c.rows.i (record { id = 0; volume = 0; value = None }) Active false c.rows-test.true c.requires.station_statuses c.requires.undecided);
}
