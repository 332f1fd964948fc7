use Rattle.std.proofs.Common.{◌≡◌, ◌++◌, flat_map, take}
use Rattle.cnf_encode.proofs.PairLemmas.{station_clauses}
use Rattle.cnf_encode.proofs.encode.add_pairs.Given as goal

abbrev pub invariant-loop-i : goal.invariant-loop-i
invariant-loop-i l = record {
  added : l.formula.list ≡ l.initial.formula.list ++ flat_map (station_clauses l.book l.set) (take l.i l.set);
  same : l.formula.vars ≡ l.initial.formula.vars;
}
