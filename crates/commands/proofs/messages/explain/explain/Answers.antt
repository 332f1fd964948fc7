use Rattle.std.proofs.Common.{refl}
use Rattle.commands.proofs.messages.explain.explain.Goals as goal

pub returns-in-CannotRead-clause-explains : goal.returns-in-CannotRead-clause-explains
returns-in-CannotRead-clause-explains g c = rw c.in-CannotRead.is (refl, rw c.of.ensures at c.print_line.ensures.says)
