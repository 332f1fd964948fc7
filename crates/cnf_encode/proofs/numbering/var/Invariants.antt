use Rattle.std.proofs.Common.{take}
use Rattle.cnf_encode.specs.ByStation.{IsCount}
use Rattle.cnf_encode.proofs.numbering.var.Given as goal

abbrev pub invariant-loop-i : goal.invariant-loop-i
invariant-loop-i l = IsCount l.book (take l.i l.set) l.before
