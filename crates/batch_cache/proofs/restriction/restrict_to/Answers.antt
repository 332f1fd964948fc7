use Rattle.pack_defs.specs.Lists.{is_in}
use Rattle.batch_cache.proofs.KeptRefutationLemmas.{taken-ascends}
use Rattle.batch_cache.proofs.restriction.restrict_to.Goals as goal

pub of-requires : goal.of-requires
of-requires c =
    taken-ascends (λ x. is_in c.args.set.now x.0) c.args.map.now c.entries-entry-items.result.now c.loop-entry.entries.items c.deref.result.now c.loop-entry.entry-index
    c.entries-entry-items.ensures.entries c.loop-entry-test.false c.entries-entry-items.ensures.ascending c.loop-entry.invariant c.deref.ensures.value
