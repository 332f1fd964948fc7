use Rattle.batch_cache.proofs.SuggestLaws.{none-to-answer}
use Rattle.batch_cache.proofs.laws.prove_none_is_suggested.Goals as goal

pub returns : goal.returns
returns c = λ view top task worker none book. none-to-answer view top task worker none book
