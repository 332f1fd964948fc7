use Rattle.std.proofs.Common.{arith}
use Rattle.cnf_encode.proofs.AscendingLemmas.{few-bytes}
use Rattle.cnf_encode.proofs.numbering.count_of.Goals as goal

pub overflow_cast-result : goal.overflow_cast-result
overflow_cast-result c = omega (arith, few-bytes c.args.channels.now c.requires c.type_inv.channels)

pub returns-clause-few : goal.returns-clause-few
returns-clause-few c = few-bytes c.args.channels.now c.requires c.type_inv.channels
