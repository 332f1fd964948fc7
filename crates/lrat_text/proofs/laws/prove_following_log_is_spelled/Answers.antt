use Rattle.lrat_text.proofs.Named.{follows-spelled}
use Rattle.lrat_text.proofs.laws.prove_following_log_is_spelled.Goals as goal

pub returns : goal.returns
returns c = follows-spelled
