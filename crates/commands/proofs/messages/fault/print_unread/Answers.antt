use Rattle.commands.specs.Verified.{unread_text}
use Rattle.commands.proofs.messages.fault.print_unread.Goals as goal

pub returns-in-BadLine-clause-says : goal.returns-in-BadLine-clause-says
unfolding unread_text
returns-in-BadLine-clause-says g c = rw c.in-BadLine.is c.print_line_at.ensures.says

pub returns-in-Truncated-clause-says : goal.returns-in-Truncated-clause-says
unfolding unread_text
returns-in-Truncated-clause-says g c = rw c.in-Truncated.is c.print_line-in-Truncated.ensures.says

pub returns-in-NoMemory-clause-says : goal.returns-in-NoMemory-clause-says
unfolding unread_text
returns-in-NoMemory-clause-says g c = rw c.in-NoMemory.is c.print_line-in-NoMemory.ensures.says
