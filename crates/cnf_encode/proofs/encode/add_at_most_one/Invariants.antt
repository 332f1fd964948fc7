use Rattle.std.proofs.Common.{◌≡◌, ◌++◌, flat_map, take}
use Rattle.cnf_encode.specs.Formula.{at_most_one, station_variables}
use Rattle.cnf_encode.proofs.encode.add_at_most_one.Given as goal

abbrev pub invariant-loop-i : goal.invariant-loop-i
invariant-loop-i l = record {
  added : l.formula.list ≡ l.initial.formula.list ++ flat_map (λ s. at_most_one (station_variables l.book l.set s)) (take l.i l.set);
  same : l.formula.vars ≡ l.initial.formula.vars;
}
