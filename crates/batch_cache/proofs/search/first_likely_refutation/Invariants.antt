-- The entries that are left decide as all do.
use Rattle.std.proofs.Common.{◌≡◌, find}
use Rattle.batch_cache.specs.Suggesting.{may_refute}
use Rattle.batch_cache.proofs.search.first_likely_refutation.Given as goal

abbrev pub invariant-loop-key : goal.invariant-loop-key
invariant-loop-key l = find (may_refute l.top l.task l.worker) l.refutations.entries ≡ find (may_refute l.top l.task l.worker) l.key-iterator
