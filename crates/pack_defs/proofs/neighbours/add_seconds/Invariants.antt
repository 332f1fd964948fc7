use Rattle.std.proofs.Common.{map, take}
use Rattle.pack_defs.specs.Neighbours.{HasInserted}
use Rattle.pack_defs.proofs.neighbours.add_seconds.Given as goal

abbrev pub invariant-loop-p : goal.invariant-loop-p
invariant-loop-p l = HasInserted l.fn.near.items (map (λ p. p.g) (take l.p-index l.pairs)) l.near.items
