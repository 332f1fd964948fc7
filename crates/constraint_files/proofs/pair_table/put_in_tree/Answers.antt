use Rattle.std.proofs.Common.{◌∙◌}
use Rattle.constraint_files.proofs.PairOrder.{insert-pair}
use Rattle.constraint_files.proofs.pair_table.put_in_tree.Goals as goal

pub returns : goal.returns
returns c = c.in_ok-insert.ensures.keys ∙ insert-pair c.args.tree.now.keys c.args.pair
