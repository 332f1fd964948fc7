use Rattle.std.proofs.Common.{◌≡◌, drop}
use Rattle.rup_check.specs.Follows.{ends_empty}
use Rattle.rup_check.proofs.line.Log.ends_empty.Given as goal

abbrev pub invariant-loop-i : goal.invariant-loop-i
invariant-loop-i l = ends_empty (drop l.i l.self.lines) ≡ ends_empty l.self.lines
