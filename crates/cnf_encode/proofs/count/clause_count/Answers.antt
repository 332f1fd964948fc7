use Rattle.std.proofs.Common.{arith}
use Rattle.cnf_encode.proofs.CountLemmas.{formula-counted}
use Rattle.cnf_encode.proofs.count.clause_count.Goals as goal

pub overflow_add-result-2 : goal.overflow_add-result-2
overflow_add-result-2 c = omega (arith, c.at_most_one_count.ensures.few, c.pair_count.ensures.few)

pub returns-clause-count : goal.returns-clause-count
returns-clause-count c = formula-counted c.args.book.now c.args.set.now c.at_most_one_count.result c.pair_count.result c.at_most_one_count.ensures.count c.pair_count.ensures.count
