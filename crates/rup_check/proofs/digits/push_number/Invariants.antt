use Rattle.rup_check.proofs.Packing.{Begun}
use Rattle.rup_check.proofs.digits.push_number.Given as goal

abbrev pub invariant-digits : goal.invariant-digits
invariant-digits l = Begun l.fn.bytes.items l.bytes.items l.rest l.fn.number

abbrev pub decreases-digits : goal.decreases-digits
decreases-digits l = l.rest
