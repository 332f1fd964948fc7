use Rattle.std.proofs.Common.{refl}
use Rattle.transcript_text.proofs.Fed.{has-none}
use Rattle.transcript_text.proofs.reader.TranscriptReader.new.Goals as goal

pub returns : goal.returns
returns c = λ sc book. has-none sc book _ refl c.new.ensures.items
