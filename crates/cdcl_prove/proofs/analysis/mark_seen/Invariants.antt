use Rattle.std.proofs.Common.{◌≡◌, true, take}
use Rattle.std.specs.List.{All}
use Rattle.cdcl_prove.specs.Analysis.{SeesMore, has_seen}
use Rattle.cdcl_prove.proofs.analysis.mark_seen.Given as goal

abbrev pub invariant-loop-lit : goal.invariant-loop-lit
invariant-loop-lit l = record {
  more : SeesMore l.initial.marks l.marks;
  met : All (λ x. has_seen l.marks x.var ≡ true) (take l.lit-index l.clause);
}
