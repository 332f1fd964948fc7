use Rattle.commands.specs.Settling.{unlogged_text}
use Rattle.commands.proofs.settling.print_unread.Goals as goal

pub returns-in-Truncated-clause-says : goal.returns-in-Truncated-clause-says
unfolding unlogged_text
returns-in-Truncated-clause-says g c = rw c.in-Truncated.is c.print_line.ensures.says

pub returns-in-BadLine-clause-says : goal.returns-in-BadLine-clause-says
unfolding unlogged_text
returns-in-BadLine-clause-says g c = rw c.in-BadLine.is c.print_line_at.ensures.says

pub returns-in-RatStep-clause-says : goal.returns-in-RatStep-clause-says
unfolding unlogged_text
returns-in-RatStep-clause-says g c = rw c.in-RatStep.is c.print_line_at-in-RatStep.ensures.says

pub returns-in-NoMemory-clause-says : goal.returns-in-NoMemory-clause-says
unfolding unlogged_text
returns-in-NoMemory-clause-says g c = rw c.in-NoMemory.is c.print_line-in-NoMemory.ensures.says
