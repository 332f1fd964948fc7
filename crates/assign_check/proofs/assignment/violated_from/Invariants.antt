use Rattle.std.proofs.Common.{◌≡◌, count_by, take}
use Rattle.assign_check.proofs.Violations.{is_violated_from}
use Rattle.assign_check.proofs.assignment.violated_from.Given as goal

abbrev pub invariant-loop-p : goal.invariant-loop-p
invariant-loop-p l = l.count ≡ count_by (is_violated_from l.entries l.own) (take l.p-index l.p-items)
