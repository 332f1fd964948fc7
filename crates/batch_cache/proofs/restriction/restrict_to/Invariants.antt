-- The entries so far are filtered.
use Rattle.std.proofs.Common.{◌≡◌, take}
use Rattle.batch_cache.specs.Answering.{restrict_to}
use Rattle.batch_cache.proofs.restriction.restrict_to.Given as goal

abbrev pub invariant-loop-entry : goal.invariant-loop-entry
invariant-loop-entry l = l.entries.items ≡ restrict_to l.set (take l.entry-index l.map)
