use Rattle.std.proofs.Common.{◌≡◌, ◌-◌, length}
use Rattle.cdcl_prove.proofs.search.Search.descend.Given as goal

abbrev pub invariant-decisions : goal.invariant-decisions
invariant-decisions l = record {
  formula : l.self.derivation.formula ≡ l.initial.self.derivation.formula;
  lines : l.self.derivation.lines ≡ l.initial.self.derivation.lines;
}

abbrev pub decreases-decisions : goal.decreases-decisions
decreases-decisions l = l.self.derivation.formula.vars - length l.self.derivation.entries
