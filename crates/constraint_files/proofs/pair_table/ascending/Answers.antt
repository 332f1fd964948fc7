use Rattle.std.proofs.Common.{◌∙◌, ap, fold, sym}
use Rattle.constraint_files.specs.PairTable.{with_pair}
use Rattle.constraint_files.proofs.PairOrder.{insert-pairs, none-left}
use Rattle.constraint_files.proofs.pair_table.ascending.Goals as goal

pub returns-then-is_empty : goal.returns-then-is_empty
returns-then-is_empty c =
    let none = none-left c.args.tree.keys (c.is_empty.ensures.0 c.if-is_empty.true) in
    c.in_order.ensures ∙ insert-pairs _ c.args.pairs.items ∙ ap (λ ks. fold with_pair ks c.args.pairs.items) (sym none)
