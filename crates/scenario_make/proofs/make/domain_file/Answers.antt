use Rattle.std.proofs.Common.{◌≡◌, ◌∙◌, ◌+◌, ◌++◌, ap, arith}
use Rattle.scenario_make.specs.GeneratedFiles.{generated_domain_line}
use Rattle.scenario_make.proofs.RangeLemmas.{written-more}
use Rattle.scenario_make.proofs.make.domain_file.Goals as goal

pub loop-i-preserved : goal.loop-i-preserved
loop-i-preserved c =
    let k : c.loop-i.i + 1 ≡ 1 + c.loop-i.i = omega arith in
    record {
      within = omega arith;
      written = written-more generated_domain_line 1 c.loop-i.i c.loop-i.text.items c.push_line.new.text.items c.loop-i.invariant.written (c.in_ok-push_line.ensures ∙ ap (λ s. c.loop-i.text.items ++ generated_domain_line s) k);
    }
