use Rattle.std.proofs.Common.{◌≡◌, true, subst, arith, take_all, List}
use Rattle.std.specs.List.{All}
use Rattle.clause_db.specs.declared.lit.Lit.{Lit}
use Rattle.cdcl_prove.specs.Analysis.{SeesMore, has_seen}
use Rattle.cdcl_prove.proofs.AnalysisLemmas.{more-then, met-more}
use Rattle.cdcl_prove.proofs.analysis.mark_seen.Goals as goal

pub loop-lit-preserved : goal.loop-lit-preserved
loop-lit-preserved c =
    let step : SeesMore c.loop-lit.marks c.mark_seen.new.self = record { size = c.mark_seen.ensures.size; still = c.mark_seen.ensures.still; same = c.mark_seen.ensures.same } in
    record {
      more = more-then c.args.marks.now c.loop-lit.marks c.mark_seen.new.self c.loop-lit.invariant.more step;
      met = met-more c.args.clause.now c.loop-lit.lit-index _ c.loop-lit.marks c.mark_seen.new.self step (omega arith) c.mark_seen.ensures.seen_variables c.loop-lit.invariant.met;
    }

pub returns-clause-seen_variables : goal.returns-clause-seen_variables
returns-clause-seen_variables c =
    subst (λ (xs : List Lit). All (λ (x : Lit). has_seen c.loop-lit.marks x.var ≡ true) xs) (take_all c.loop-lit.lit-index c.args.clause.now (omega arith)) c.loop-lit.invariant.met
