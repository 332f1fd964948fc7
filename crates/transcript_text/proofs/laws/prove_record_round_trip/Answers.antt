use Rattle.transcript_text.proofs.RecordReads.{record-again}
use Rattle.transcript_text.proofs.laws.prove_record_round_trip.Goals as goal

pub returns : goal.returns
returns c = record-again
