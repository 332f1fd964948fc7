use Rattle.std.proofs.Common.{◌≤◌}
use Rattle.std.specs.List.{AllWithin}
use Rattle.transcript_text.specs.Fields.{greatest_u32}
use Rattle.transcript_text.proofs.round_trip.keeps_short_numbers.Given as goal

abbrev pub invariant-loop-station : goal.invariant-loop-station
invariant-loop-station l = AllWithin (λ x. x.id ≤ greatest_u32) l.stations 0 l.station-index
