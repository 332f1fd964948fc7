use Rattle.std.proofs.Common.{◌≡◌, ◌++◌, map, take}
use Rattle.cnf_encode.specs.Formula.{at_least_one, station_variables}
use Rattle.cnf_encode.proofs.encode.add_at_least_one.Given as goal

abbrev pub invariant-loop-i : goal.invariant-loop-i
invariant-loop-i l = record {
  added : l.formula.list ≡ l.initial.formula.list ++ map (λ s. at_least_one (station_variables l.book l.set s)) (take l.i l.set);
  same : l.formula.vars ≡ l.initial.formula.vars;
}
