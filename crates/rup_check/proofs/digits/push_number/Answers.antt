use Rattle.std.proofs.Common.{arith}
use Rattle.rup_check.proofs.Packing.{begun-first, begun-more}
use Rattle.rup_check.proofs.digits.push_number.Goals as goal

pub digits-init : goal.digits-init
digits-init c = begun-first c.args.bytes.now.items c.args.number

pub digits-preserved : goal.digits-preserved
digits-preserved c = rw c.in_ok-push.ensures.items (begun-more c.args.bytes.now.items c.digits.bytes.items c.digits.rest c.args.number c.ranges.number.fits (omega (arith, c.digits-test.true)) c.digits.invariant)
