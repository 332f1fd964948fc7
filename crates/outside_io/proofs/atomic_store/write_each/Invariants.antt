-- There is one entry for each text so far.
use Rattle.std.proofs.Common.{◌≡◌, length}
use Rattle.outside_io.proofs.atomic_store.write_each.Given as goal

abbrev pub invariant-loop-at : goal.invariant-loop-at
invariant-loop-at g l = length l.beside.items ≡ l.at
