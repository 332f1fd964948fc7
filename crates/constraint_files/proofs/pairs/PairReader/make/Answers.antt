use Rattle.constraint_files.proofs.PieceLaws.{pairs-none}
use Rattle.constraint_files.proofs.pairs.PairReader.make.Goals as goal

pub returns : goal.returns
returns c = rw (c.new-2.ensures, c.new.ensures) (pairs-none c.args.domains.now)
