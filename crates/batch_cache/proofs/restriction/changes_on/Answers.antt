use Rattle.batch_cache.specs.Suggesting.{is_change}
use Rattle.batch_cache.proofs.KeptRefutationLemmas.{taken-ascends}
use Rattle.batch_cache.proofs.restriction.changes_on.Goals as goal

pub of-requires : goal.of-requires
of-requires c =
    taken-ascends (is_change c.args.set.now c.args.last.now) c.args.map.now c.entries-entry-items.result.now c.loop-entry.changes.items c.deref.result.now c.loop-entry.entry-index
    c.entries-entry-items.ensures.entries c.loop-entry-test.false c.entries-entry-items.ensures.ascending c.loop-entry.invariant c.deref.ensures.value
