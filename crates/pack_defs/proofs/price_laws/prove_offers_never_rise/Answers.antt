use Rattle.pack_defs.proofs.Rounds.{offers_fall}
use Rattle.pack_defs.proofs.price_laws.prove_offers_never_rise.Goals as goal

pub returns : goal.returns
returns c = offers_fall
