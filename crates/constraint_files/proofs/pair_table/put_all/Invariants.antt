use Rattle.std.proofs.Common.{◌≡◌, fold}
use Rattle.constraint_files.specs.PairTable.{with_pair}
use Rattle.constraint_files.proofs.pair_table.put_all.Given as goal

abbrev pub invariant-loop-pair : goal.invariant-loop-pair
invariant-loop-pair l =
    fold with_pair l.tree.keys l.pair-iterator.rest.items ≡ fold with_pair l.fn.tree.keys l.fn.pairs.items
