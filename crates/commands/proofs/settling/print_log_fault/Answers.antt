use Rattle.commands.specs.Settling.{log_why}
use Rattle.commands.proofs.settling.print_log_fault.Goals as goal

pub returns-in-NoRefutation-clause-says : goal.returns-in-NoRefutation-clause-says
unfolding log_why
returns-in-NoRefutation-clause-says g c = rw c.in-NoRefutation.is c.print_line.ensures.says

pub returns-in-NoMemory-clause-says : goal.returns-in-NoMemory-clause-says
unfolding log_why
returns-in-NoMemory-clause-says g c = rw c.in-NoMemory.is c.print_line-in-NoMemory.ensures.says
