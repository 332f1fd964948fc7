use Rattle.pack_defs.proofs.RoundOrderLemmas.{turns-count, volume-first}
use Rattle.pack_defs.proofs.clock_laws.prove_round_order.Goals as goal

pub returns-clause-each : goal.returns-clause-each
returns-clause-each c = turns-count

pub returns-clause-volume : goal.returns-clause-volume
returns-clause-volume c = volume-first
