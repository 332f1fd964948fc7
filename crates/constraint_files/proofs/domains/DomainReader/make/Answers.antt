use Rattle.constraint_files.proofs.PieceLaws.{domains-none}
use Rattle.constraint_files.proofs.domains.DomainReader.make.Goals as goal

pub returns : goal.returns
returns c = rw (c.new-2.ensures, c.new.ensures) domains-none
