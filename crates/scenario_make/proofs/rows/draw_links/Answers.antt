use Rattle.std.proofs.Common.{◌∙◌, ◌+◌, ◌∷◌, ◌++◌, [], refl, arith, sym, ap}
use Rattle.scenario_make.proofs.DrawLemmas.{after-none, after-one, link-more, link-none}
use Rattle.scenario_make.proofs.rows.draw_links.Goals as goal

pub loop-i-init : goal.loop-i-init
loop-i-init c = record {
  within = omega arith;
  drawn = c.new-links.ensures.items;
  next = after-none c.args.words.now 0 refl;
}

pub loop-i-preserved : goal.loop-i-preserved
loop-i-preserved c =
    let inv = c.loop-i.invariant in
    record {
      within = omega arith;
      drawn = c.in_ok-push.ensures.items ∙ (ap (λ xs. xs ++ (c.args.station + 1 + c.loop-i.i) ∷ []) inv.drawn ∙ sym (link-more c.args.words.now c.loop-i.words c.args.station c.loop-i.i c.draw.result inv.next c.draw.ensures.value c.if-draw-ne1.false));
      next = c.draw.ensures.next ∙ after-one c.args.words.now c.loop-i.words c.loop-i.i (c.loop-i.i + 1) inv.next refl;
    }

pub loop-i-preserved-then-draw-ne1 : goal.loop-i-preserved-then-draw-ne1
loop-i-preserved-then-draw-ne1 c =
    let inv = c.loop-i.invariant in
    record {
      within = omega arith;
      drawn = inv.drawn ∙ sym (link-none c.args.words.now c.loop-i.words c.args.station c.loop-i.i c.draw.result inv.next c.draw.ensures.value c.if-draw-ne1.true);
      next = c.draw.ensures.next ∙ after-one c.args.words.now c.loop-i.words c.loop-i.i (c.loop-i.i + 1) inv.next refl;
    }
