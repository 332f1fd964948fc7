-- The entries so far are filtered.
use Rattle.std.proofs.Common.{◌≡◌, take}
use Rattle.batch_cache.specs.Suggesting.{changes_on}
use Rattle.batch_cache.proofs.restriction.changes_on.Given as goal

abbrev pub invariant-loop-entry : goal.invariant-loop-entry
invariant-loop-entry l = l.changes.items ≡ changes_on l.set l.last (take l.entry-index l.map)
