use Rattle.std.proofs.Common.{◌∙◌, ap, sym}
use Rattle.pack_defs.specs.Packing.{fits}
use Rattle.threshold_laws.proofs.RuleLemmas.{asked-ascends, packed-fits}
use Rattle.threshold_laws.proofs.rule.PlainRule.has_room.Goals as goal

pub fits-requires : goal.fits-requires
fits-requires c = rw (c.deref.ensures.value, c.in_ok-set.ensures) (asked-ascends c.args.self.now.sc.now c.args.clock.now c.args.station c.requires)

pub returns-in-Some : goal.returns-in-Some
returns-in-Some c =
    let packing = rw (c.in-Some.is) at c.in_ok-fits.ensures in
    sym (packed-fits c.args.self.now.book.now c.deref.result.now _ packing)
    ∙ ap (fits c.args.self.now.book.now) (c.deref.ensures.value ∙ c.in_ok-set.ensures)
