use Rattle.std.proofs.Common.{◌∙◌}
use Rattle.cnf_encode.proofs.CountLemmas.{twos-half}
use Rattle.cnf_encode.proofs.count.station_at_most_one_count.Goals as goal

pub returns-clause-count : goal.returns-clause-count
returns-clause-count c = λ variable. twos-half variable c.args.channels.now c.from-n.result (c.from-n.ensures ∙ c.count_of.ensures.count)
