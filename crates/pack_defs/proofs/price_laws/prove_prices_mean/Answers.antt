use Rattle.pack_defs.specs.Prices.{falls}
use Rattle.pack_defs.proofs.Rounds.{first_price}
use Rattle.pack_defs.proofs.PriceLaws.{prices_next, prices_rounds}
use Rattle.pack_defs.proofs.price_laws.prove_prices_mean.Goals as goal

pub returns-clause-opening : goal.returns-clause-opening
returns-clause-opening c = λ sc. first_price sc.opening (falls sc)

pub returns-clause-next : goal.returns-clause-next
returns-clause-next c = prices_next

pub returns-clause-rounds : goal.returns-clause-rounds
returns-clause-rounds c = prices_rounds
