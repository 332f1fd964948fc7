use Rattle.commands.specs.Refusal.{scenario_text}
use Rattle.commands.proofs.messages.refusal.print_scenario.Goals as goal

pub returns-in-Syntax-clause-says : goal.returns-in-Syntax-clause-says
unfolding scenario_text
returns-in-Syntax-clause-says g c = rw c.in-Syntax.is c.print_line.ensures.says

pub returns-in-WrongKind-clause-says : goal.returns-in-WrongKind-clause-says
unfolding scenario_text
returns-in-WrongKind-clause-says g c = rw c.in-WrongKind.is (rw c.text-in-WrongKind.ensures at c.print_member-in-WrongKind.ensures.says)

pub returns-in-OutOfLimit-clause-says : goal.returns-in-OutOfLimit-clause-says
unfolding scenario_text
returns-in-OutOfLimit-clause-says g c = rw c.in-OutOfLimit.is (rw c.text-in-OutOfLimit.ensures at c.print_member-in-OutOfLimit.ensures.says)

pub returns-in-SumOverOpening-clause-says : goal.returns-in-SumOverOpening-clause-says
unfolding scenario_text
returns-in-SumOverOpening-clause-says g c = rw c.in-SumOverOpening.is c.print_line-in-SumOverOpening.ensures.says

pub returns-in-NoProver-clause-says : goal.returns-in-NoProver-clause-says
unfolding scenario_text
returns-in-NoProver-clause-says g c = rw c.in-NoProver.is c.print_line-in-NoProver.ensures.says

pub returns-in-NoMemory-clause-says : goal.returns-in-NoMemory-clause-says
unfolding scenario_text
returns-in-NoMemory-clause-says g c = rw c.in-NoMemory.is c.print_line-in-NoMemory.ensures.says
