-- All numbers are in the set exactly if the rest of them is.
use Rattle.std.proofs.Common.{◌≡◌, drop}
use Rattle.std.specs.List.{list_all}
use Rattle.pack_defs.specs.Lists.{is_in}
use Rattle.cert_types.proofs.subset.are_in.Given as goal

abbrev pub invariant-loop-number : goal.invariant-loop-number
invariant-loop-number l = list_all (is_in l.set) (drop l.number-index l.numbers) ≡ list_all (is_in l.set) l.numbers
