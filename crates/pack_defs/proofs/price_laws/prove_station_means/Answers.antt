use Rattle.pack_defs.proofs.PriceLaws.{volume_own, value_own}
use Rattle.pack_defs.proofs.price_laws.prove_station_means.Goals as goal

pub returns-clause-volume : goal.returns-clause-volume
returns-clause-volume c = volume_own

pub returns-clause-value : goal.returns-clause-value
returns-clause-value c = value_own
