-- The lines up to here are counted.
use Rattle.std.proofs.Common.{take}
use Rattle.cert_types.specs.Uses.{AreCounted}
use Rattle.cert_types.proofs.uses.Uses.of.Given as goal

abbrev pub invariant-loop-i : goal.invariant-loop-i
invariant-loop-i l = AreCounted l.vars (take l.i l.lines) l.uses
