use Rattle.std.proofs.Common.{◌≡◌, length, take}
use Rattle.std.specs.List.{sum_by}
use Rattle.cnf_encode.specs.ByStation.{pairs_inside_from}
use Rattle.cnf_encode.proofs.count.pair_count.Given as goal

abbrev pub invariant-loop-i : goal.invariant-loop-i
invariant-loop-i l = l.count ≡ sum_by (λ s. length (pairs_inside_from l.book l.set s)) (take l.i l.set)
