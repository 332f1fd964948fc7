use Rattle.std.proofs.Common.{◌≡◌, length, take}
use Rattle.undecided_tests.specs.Cut.{up_to_empty}
use Rattle.undecided_tests.proofs.cut.up_to_empty.Given as goal

abbrev pub invariant-loop-lines : goal.invariant-loop-lines
invariant-loop-lines l = take l.kept l.lines ≡ up_to_empty l.fn.log.lines

abbrev pub decreases-loop-lines : goal.decreases-loop-lines
decreases-loop-lines l = length l.lines
