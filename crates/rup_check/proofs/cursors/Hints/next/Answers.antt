use Rattle.std.proofs.Common.{length, arith, ap}
use Rattle.rup_check.specs.Packed.{no_digits}
use Rattle.rup_check.proofs.Packing.{numbers-few}
use Rattle.rup_check.proofs.cursors.Hints.next.Goals as goal

pub returns-clause-few : goal.returns-clause-few
returns-clause-few c =
    let few = numbers-few no_digits c.self.inside.packed.now in
    omega (arith, few, ap length c.self.view_is, c.self.told)
