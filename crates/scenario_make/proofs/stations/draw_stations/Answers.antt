use Rattle.std.proofs.Common.{◌≡◌, ◌∙◌, ◌+◌, ◌∷◌, ◌++◌, [], refl, sym, ap, rules, arith}
use Rattle.scenario_make.specs.GeneratedFiles.{generated_station}
use Rattle.scenario_make.proofs.DrawLemmas.{after-none, after-two, station-is}
use Rattle.scenario_make.proofs.RangeLemmas.{map-more}
use Rattle.scenario_make.proofs.stations.draw_stations.Goals as goal

pub loop-i-init : goal.loop-i-init
loop-i-init c = record {
  within = omega arith;
  drawn = search rules;
  next = after-none c.args.words.now 0 refl;
}

pub loop-i-preserved : goal.loop-i-preserved
loop-i-preserved c =
    let inv = c.loop-i.invariant in
    let k : 1 + c.loop-i.i ≡ c.loop-i.i + 1 = omega arith in
    let made = station-is c.args.words.now c.loop-i.words c.draw_volume-volume.new.words c.loop-i.i c.draw_volume-volume.result c.draw_value-value.result inv.next c.draw_volume-volume.ensures.next c.draw_volume-volume.ensures.value c.draw_value-value.ensures.value in
    record {
      within = omega arith;
      drawn = c.in_ok-push.ensures.items ∙ (ap (λ x. c.loop-i.stations.items ++ x ∷ []) made ∙ (ap (λ xs. xs ++ generated_station c.args.words.now (c.loop-i.i + 1) ∷ []) inv.drawn ∙ sym (map-more (generated_station c.args.words.now) 1 c.loop-i.i (c.loop-i.i + 1) k)));
      next = c.draw_value-value.ensures.next ∙ after-two c.args.words.now c.loop-i.words c.draw_volume-volume.new.words c.loop-i.i inv.next c.draw_volume-volume.ensures.next;
    }
