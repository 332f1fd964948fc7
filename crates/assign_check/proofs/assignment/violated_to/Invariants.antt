use Rattle.std.proofs.Common.{◌≡◌, count_by, take}
use Rattle.assign_check.proofs.Counts.{is_violated_to}
use Rattle.assign_check.proofs.assignment.violated_to.Given as goal

abbrev pub invariant-loop-p : goal.invariant-loop-p
invariant-loop-p l = l.count ≡ count_by (is_violated_to l.entries l.own) (take l.p-index l.p-items)
