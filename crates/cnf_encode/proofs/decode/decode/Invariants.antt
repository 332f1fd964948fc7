use Rattle.std.proofs.Common.{◌≡◌, map, take}
use Rattle.cnf_encode.specs.Decode.{chosen, listed_model}
use Rattle.cnf_encode.proofs.decode.decode.Given as goal

abbrev pub invariant-loop-i : goal.invariant-loop-i
invariant-loop-i l = l.entries.items ≡ map (λ s. (s, chosen l.book l.set (listed_model l.model) s)) (take l.i l.set)
