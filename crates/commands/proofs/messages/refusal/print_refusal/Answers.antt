use Rattle.commands.specs.Refusal.{refusal_text}
use Rattle.commands.proofs.messages.refusal.print_refusal.Goals as goal

pub returns-in-TooLong-clause-says : goal.returns-in-TooLong-clause-says
unfolding refusal_text
returns-in-TooLong-clause-says g c = rw c.in-TooLong.is c.print_line.ensures.says

pub returns-in-MissingDomain-clause-says : goal.returns-in-MissingDomain-clause-says
unfolding refusal_text
returns-in-MissingDomain-clause-says g c = rw c.in-MissingDomain.is (rw c.format.ensures.text at c.print_line-in-MissingDomain.ensures.says)

pub returns-in-EmptyList-clause-says : goal.returns-in-EmptyList-clause-says
unfolding refusal_text
returns-in-EmptyList-clause-says g c = rw c.in-EmptyList.is c.print_line-in-EmptyList.ensures.says
