use Rattle.pack_defs.proofs.Falls.{rounds-within}
use Rattle.pack_defs.proofs.price_laws.prove_rounds_within_limits.Goals as goal

pub returns : goal.returns
returns c = rounds-within
