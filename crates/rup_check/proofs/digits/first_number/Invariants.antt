use Rattle.std.proofs.Common.{◌≡◌, drop}
use Rattle.rup_check.specs.Packed.{numbers_from, numbers_of}
use Rattle.rup_check.proofs.digits.first_number.Given as goal

abbrev pub invariant-loop-i : goal.invariant-loop-i
invariant-loop-i l = numbers_from l.digits (drop l.i l.bytes) ≡ numbers_of l.bytes
