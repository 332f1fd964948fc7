use Rattle.std.proofs.Common.{◌≡◌, ◌++◌, drop}
use Rattle.cnf_encode.specs.Formula.{at_most_one}
use Rattle.cnf_encode.proofs.encode.add_station_at_most_one.Given as goal

abbrev pub invariant-loop-i : goal.invariant-loop-i
invariant-loop-i l = record {
  added : l.formula.list ++ at_most_one (drop l.i l.variables) ≡ l.initial.formula.list ++ at_most_one l.variables;
  same : l.formula.vars ≡ l.initial.formula.vars;
}
