use Rattle.lrat_text.proofs.RoundTrip.{log-again}
use Rattle.lrat_text.proofs.laws.prove_written_log_is_read.Goals as goal

pub returns : goal.returns
returns c = log-again
