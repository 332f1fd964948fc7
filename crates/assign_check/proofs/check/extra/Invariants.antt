use Rattle.std.proofs.Common.{◌≡◌, not, find, drop}
use Rattle.pack_defs.specs.Lists.{is_in}
use Rattle.assign_check.proofs.check.extra.Given as goal

abbrev pub invariant-loop-x : goal.invariant-loop-x
invariant-loop-x l = find (λ x. not (is_in l.set x.0)) (drop l.x-index l.entries) ≡ find (λ x. not (is_in l.set x.0)) l.entries
