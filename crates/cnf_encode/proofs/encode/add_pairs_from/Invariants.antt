use Rattle.std.proofs.Common.{◌≡◌, ◌++◌, filter, map, take}
use Rattle.pack_defs.specs.Lists.{is_in}
use Rattle.cnf_encode.specs.Formula.{pair_clause}
use Rattle.cnf_encode.proofs.encode.add_pairs_from.Given as goal

abbrev pub invariant-loop-p : goal.invariant-loop-p
invariant-loop-p l = record {
  added : l.formula.list ≡ l.initial.formula.list ++ map (pair_clause l.book l.set) (filter (λ p. is_in l.set p.g) (take l.p-index l.p-items));
  same : l.formula.vars ≡ l.initial.formula.vars;
}
