use Rattle.std.proofs.Common.{◌≡◌, take}
use Rattle.std.specs.List.{count_by}
use Rattle.pack_defs.specs.Lists.{is_in}
use Rattle.cnf_encode.proofs.count.pairs_inside.Given as goal

abbrev pub invariant-loop-p : goal.invariant-loop-p
invariant-loop-p l = l.count ≡ count_by (λ p. is_in l.set p.g) (take l.p-index l.p-items)
