use Rattle.std.proofs.Common.{◌≡◌, ◌++◌, map, take}
use Rattle.cnf_encode.specs.Formula.{not_both}
use Rattle.cnf_encode.proofs.encode.add_not_both.Given as goal

abbrev pub invariant-loop-w : goal.invariant-loop-w
invariant-loop-w l = record {
  added : l.formula.list ≡ l.initial.formula.list ++ map (not_both l.v) (take l.w-index l.others);
  same : l.formula.vars ≡ l.initial.formula.vars;
}
