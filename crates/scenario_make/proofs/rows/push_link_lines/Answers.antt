use Rattle.std.proofs.Common.{◌∷◌, arith}
use Rattle.std.specs.Prelude.{codes}
use Rattle.scenario_make.specs.GeneratedFiles.{key_line}
use Rattle.scenario_make.proofs.RangeLemmas.{behind-more}
use Rattle.scenario_make.proofs.rows.push_link_lines.Goals as goal

pub loop-c-preserved : goal.loop-c-preserved
loop-c-preserved c = record {
  least = omega arith;
  within = omega arith;
  written = behind-more (λ n. key_line (codes "CO") (n ∷ n ∷ c.args.station ∷ c.args.links.now)) 14 c.loop-c.c c.args.text.now.items c.loop-c.text.items c.push_line.new.text.items c.loop-c.invariant.least c.loop-c.invariant.written c.in_ok-push_line.ensures;
}
