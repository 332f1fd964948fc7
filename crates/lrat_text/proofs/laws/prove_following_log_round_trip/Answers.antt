use Rattle.std.proofs.Common.{length}
use Rattle.lrat_text.proofs.Named.{follows-spelled}
use Rattle.lrat_text.proofs.RoundTrip.{log-again}
use Rattle.lrat_text.proofs.laws.prove_following_log_round_trip.Goals as goal

pub returns : goal.returns
returns c = λ vars clauses lines follows le sum. log-again (length clauses) lines (follows-spelled vars clauses lines follows le sum)
