use Rattle.cdcl_prove.specs.Analysis.{IsAnalysed}
use Rattle.cdcl_prove.proofs.analysis.mark.Given as goal

abbrev pub invariant-loop-i : goal.invariant-loop-i
invariant-loop-i l = IsAnalysed l.trail.clauses.vars l.trail.clauses.list l.trail.entries l.fn.conflict.clause l.marks
