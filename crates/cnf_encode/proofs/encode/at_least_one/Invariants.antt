use Rattle.std.proofs.Common.{◌≡◌, take}
use Rattle.cnf_encode.specs.Formula.{at_least_one}
use Rattle.cnf_encode.proofs.encode.at_least_one.Given as goal

abbrev pub invariant-loop-v : goal.invariant-loop-v
invariant-loop-v l = l.clause.items ≡ at_least_one (take l.v-index l.variables)
