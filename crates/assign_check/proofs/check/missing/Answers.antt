use Rattle.std.proofs.Common.{◌≡◌, ◌∙◌, true, false, not, get_or, sym, ap, option_map}
use Rattle.std.specs.Option.{is_some}
use Rattle.pack_defs.specs.Lists.{has_station}
use Rattle.assign_check.specs.declared.fault.MapFault.TheVariants.{Missing}
use Rattle.assign_check.proofs.Finds.{channel-known, found-here, found-later}
use Rattle.assign_check.proofs.check.missing.Goals as goal

pub returns-then-is_none : goal.returns-then-is_none
returns-then-is_none c =
    let known : has_station c.args.map.now (get_or c.args.set.now c.loop-s.s-index 0) ≡ false = sym (channel-known (get_or c.args.set.now c.loop-s.s-index 0) c.args.map.now) ∙ ap is_some (sym c.get.ensures) ∙ c.if-is_none.ensures in
    let here = found-here (λ s. not (has_station c.args.map.now s)) c.args.set.now c.loop-s.s-index 0 c.loop-s-test.true (ap not known) in
    ap (option_map Missing) (sym here ∙ c.loop-s.invariant)

pub loop-s-preserved : goal.loop-s-preserved
loop-s-preserved c =
    let known : has_station c.args.map.now (get_or c.args.set.now c.loop-s.s-index 0) ≡ true = sym (channel-known (get_or c.args.set.now c.loop-s.s-index 0) c.args.map.now) ∙ ap is_some (sym c.get.ensures) ∙ c.if-is_none.ensures in
    let later = found-later (λ s. not (has_station c.args.map.now s)) c.args.set.now c.loop-s.s-index 0 c.loop-s-test.true (ap not known) in
    sym later ∙ c.loop-s.invariant
