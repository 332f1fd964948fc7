use Rattle.batch_cache.proofs.NoneLaws.{none-answered, none-kept}
use Rattle.batch_cache.proofs.laws.prove_none_is_kept.Goals as goal

pub returns-clause-so : goal.returns-clause-so
returns-clause-so c = λ view top book task worker none. none-kept top book task worker view none

pub returns-clause-alone : goal.returns-clause-alone
returns-clause-alone c = λ view top book task worker none. none-answered top book task worker view none
