-- The entries that are left decide as all do.
use Rattle.std.proofs.Common.{◌≡◌, find}
use Rattle.batch_cache.specs.Answering.{gives_fit}
use Rattle.batch_cache.proofs.search.first_fit.Given as goal

abbrev pub invariant-loop-key : goal.invariant-loop-key
invariant-loop-key l = find (gives_fit l.top l.book l.task l.worker) l.maps.entries ≡ find (gives_fit l.top l.book l.task l.worker) l.key-iterator
