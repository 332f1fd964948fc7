use Rattle.std.proofs.Common.{◌≡◌, drop, fold}
use Rattle.constraint_files.specs.PairTable.{with_other}
use Rattle.constraint_files.proofs.pair_table.PairTable.add_row.Given as goal

abbrev pub invariant-loop-other : goal.invariant-loop-other
invariant-loop-other l =
    fold (with_other l.domains l.row) l.self (drop l.other-index l.other-items) ≡ fold (with_other l.domains l.row) l.fn.self l.row.others
