use Rattle.std.proofs.Common.{◌≡◌, take}
use Rattle.pack_defs.proofs.neighbours.copy_lists.Given as goal

abbrev pub invariant-loop-list : goal.invariant-loop-list
invariant-loop-list l = l.copy.items ≡ take l.list-index l.lists
