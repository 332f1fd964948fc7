use Rattle.std.proofs.Common.{◌≡◌, eqb, not, refl, rules}
use Rattle.std.proofs.lemmas.Fn.{filter_same}
use Rattle.pack_defs.specs.Lists.{without}
use Rattle.threshold_laws.proofs.clock.PlainClock.put_on_air.Goals as goal

pub returns : goal.returns
returns c =
    let kept : c.retain.new.self.items ≡ without c.self.inside.active.items c.args.station =
    filter_same _ (λ y. not (eqb y c.args.station)) _ (λ x b f' k. search rules) _ _ c.retain.ensures.filtered in
    rw (← c.self.view_is, c.in_ok-push.ensures.items, kept) refl
