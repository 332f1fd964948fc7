-- The entries that are left decide as all do.
use Rattle.std.proofs.Common.{◌≡◌, find}
use Rattle.batch_cache.specs.Suggesting.{holds_task}
use Rattle.batch_cache.proofs.search.first_changes.Given as goal

abbrev pub invariant-loop-key : goal.invariant-loop-key
invariant-loop-key l = find (holds_task l.top l.task) l.maps.entries ≡ find (holds_task l.top l.task) l.key-iterator
