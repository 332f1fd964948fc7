use Rattle.std.proofs.Common.{◌∙◌, ap, sym}
use Rattle.batch_cache.specs.StationBits.{station_bits}
use Rattle.batch_cache.proofs.BitLemmas.{not-held}
use Rattle.batch_cache.proofs.signed_set.SignedSet.holds.Goals as goal

pub returns-then-not-are_covered : goal.returns-then-not-are_covered
returns-then-not-are_covered c =
    sym (not-held c.args.self.now c.args.others.now c.self.inside.bits c.others.inside.bits
    (c.self.invariant.1 ∙ ap station_bits c.self.view_is) (c.others.invariant.1 ∙ ap station_bits c.others.view_is)
    (sym c.are_covered.ensures ∙ c.if-not-are_covered.true))
