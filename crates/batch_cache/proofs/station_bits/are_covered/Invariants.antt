-- The words that are left are covered exactly if all are.
use Rattle.std.proofs.Common.{◌≡◌, drop}
use Rattle.batch_cache.specs.StationBits.{are_covered}
use Rattle.batch_cache.proofs.station_bits.are_covered.Given as goal

abbrev pub invariant-loop-i : goal.invariant-loop-i
invariant-loop-i l = are_covered (drop l.i l.these) (drop l.i l.bits) ≡ are_covered l.these l.bits
