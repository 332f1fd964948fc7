use Rattle.std.proofs.Common.{◌≡◌, ◌++◌, fold}
use Rattle.constraint_files.specs.PairTable.{with_pair}
use Rattle.constraint_files.proofs.pair_table.in_tree.Given as goal

abbrev pub invariant-loop-pair : goal.invariant-loop-pair
invariant-loop-pair l = l.list.items ++ l.pair-iterator ≡ fold with_pair l.fn.tree.keys l.fn.pairs.items
