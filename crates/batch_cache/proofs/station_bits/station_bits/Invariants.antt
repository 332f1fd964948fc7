-- The stations that are left add the bits that are missing, and there are sixteen words.
use Rattle.std.proofs.Common.{◌≡◌, drop}
use Rattle.batch_cache.specs.StationBits.{with_bits, station_bits}
use Rattle.batch_cache.proofs.station_bits.station_bits.Given as goal

abbrev pub invariant-loop-station : goal.invariant-loop-station
invariant-loop-station l = with_bits l.words (drop l.station-index l.stations) ≡ station_bits l.stations
