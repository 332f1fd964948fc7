use Rattle.std.proofs.Common.{◌≡◌, not, find, drop}
use Rattle.pack_defs.specs.Lists.{has_station}
use Rattle.assign_check.proofs.check.missing.Given as goal

abbrev pub invariant-loop-s : goal.invariant-loop-s
invariant-loop-s l = find (λ s. not (has_station l.map s)) (drop l.s-index l.set) ≡ find (λ s. not (has_station l.map s)) l.set
