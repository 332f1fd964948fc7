use Rattle.std.proofs.Common.{arith, fold, length, sym}
use Rattle.std.proofs.lemmas.Bool.{le-ltb}
use Rattle.constraint_files.specs.PairTable.{with_pair}
use Rattle.constraint_files.proofs.PairOrder.{puts-few}
use Rattle.constraint_files.proofs.pair_table.PairTable.has_too_many.Goals as goal

pub returns-then-len-count-clause-count : goal.returns-then-len-count-clause-count
returns-then-len-count-clause-count c =
    let t = c.self.inside in
    let few = puts-few t.tree.keys t.last.items in
    rw (← c.self.view_is) (sym (le-ltb 4000000 (length (fold with_pair t.tree.keys t.last.items))
    (omega (arith, few, c.len-count.ensures, c.len.ensures.len, c.if-count-le-MOST_PAIRS.true, c.if-len-count.true))))
