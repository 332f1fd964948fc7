use Rattle.std.proofs.Common.{◌≡◌, ◌++◌, drop, take}
use Rattle.undecided_tests.specs.Cut.{up_to_empty}
use Rattle.undecided_tests.proofs.cut.kept_count.Given as goal

abbrev pub invariant-loop-place : goal.invariant-loop-place
invariant-loop-place l = take l.place l.lines ++ up_to_empty (drop l.place l.lines) ≡ up_to_empty l.lines
