use Rattle.std.proofs.Common.{◌≡◌, ◌≤◌, ◌-◌, length}
use Rattle.cdcl_prove.proofs.solve.solve.Given as goal

abbrev pub invariant-lines : goal.invariant-lines
invariant-lines g l = record {
  formula : l.search.derivation.formula ≡ l.initial.search.derivation.formula;
  few : length l.search.derivation.lines ≤ l.budget;
  goes : g.P.Poll.goes l.initial.poll l.poll;
}

abbrev pub decreases-lines : goal.decreases-lines
decreases-lines g l = l.budget - length l.search.derivation.lines
