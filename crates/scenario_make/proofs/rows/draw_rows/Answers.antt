use Rattle.std.proofs.Common.{refl, arith}
use Rattle.scenario_make.specs.GeneratedFiles.{behind_links}
use Rattle.scenario_make.proofs.DrawLemmas.{behind-one, rows-one}
use Rattle.scenario_make.proofs.rows.draw_rows.Goals as goal

pub loop-i-init : goal.loop-i-init
unfolding behind_links
loop-i-init c = record {
  within = omega arith;
  written = c.new-text.ensures.items;
  next = refl;
}

pub loop-i-preserved : goal.loop-i-preserved
loop-i-preserved c = record {
  within = omega arith;
  written = rows-one c.args.words.now c.loop-i.words c.args.size c.loop-i.i c.block_end-end.result c.loop-i.text.items c.push_rows_at.new.text.items c.loop-i.invariant.next c.block_end-end.ensures.value c.in_ok-push_rows_at.ensures.written c.loop-i.invariant.written;
  next = behind-one c.args.words.now c.loop-i.words c.push_rows_at.new.words c.args.size c.loop-i.i c.block_end-end.result c.loop-i.invariant.next c.block_end-end.ensures.value c.in_ok-push_rows_at.ensures.next;
}
