-- The stations visited so far are on their channels.
use Rattle.std.proofs.Common.{◌≡◌, take}
use Rattle.cert_types.specs.Moves.{start_map}
use Rattle.cert_types.proofs.start.start_map.Given as goal

abbrev pub invariant-loop-s : goal.invariant-loop-s
invariant-loop-s l = l.entries.items ≡ start_map l.book l.task.last (take l.s-index l.set)
