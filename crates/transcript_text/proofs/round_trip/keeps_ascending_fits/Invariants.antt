use Rattle.std.specs.List.{AllWithin}
use Rattle.transcript_text.specs.RoundTrip.{IsFitAscending}
use Rattle.transcript_text.proofs.round_trip.keeps_ascending_fits.Given as goal

abbrev pub invariant-loop-step : goal.invariant-loop-step
invariant-loop-step l = AllWithin (λ x. IsFitAscending x.shown) l.step-items 0 l.step-index
