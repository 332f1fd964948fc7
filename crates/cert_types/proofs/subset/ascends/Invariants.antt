-- All numbers ascend exactly if those from the last visited one on do.
use Rattle.std.proofs.Common.{◌≡◌, ◌-◌, drop}
use Rattle.pack_defs.specs.Lists.{is_ascending}
use Rattle.cert_types.proofs.subset.ascends.Given as goal

abbrev pub invariant-loop-i : goal.invariant-loop-i
invariant-loop-i l = is_ascending (drop (l.i - 1) l.numbers) ≡ is_ascending l.numbers
