use Rattle.pack_defs.proofs.Falls.{rate-each, rate-above, rate-rounds, rate-end}
use Rattle.pack_defs.proofs.price_laws.prove_falls_by_rate.Goals as goal

pub returns-clause-each : goal.returns-clause-each
returns-clause-each c = rate-each

pub returns-clause-above : goal.returns-clause-above
returns-clause-above c = rate-above

pub returns-clause-rounds : goal.returns-clause-rounds
returns-clause-rounds c = rate-rounds

pub returns-clause-end : goal.returns-clause-end
returns-clause-end c = rate-end
