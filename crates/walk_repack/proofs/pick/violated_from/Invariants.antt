use Rattle.std.proofs.Common.{◌≡◌, find, drop}
use Rattle.assign_check.proofs.Violations.{is_violated_from}
use Rattle.walk_repack.proofs.pick.violated_from.Given as goal

abbrev pub invariant-loop-p : goal.invariant-loop-p
invariant-loop-p l = find (is_violated_from l.walk_state.entries l.own) (drop l.p-index l.p-items) ≡ find (is_violated_from l.walk_state.entries l.own) l.p-items
