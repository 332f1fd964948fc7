use Rattle.std.proofs.Common.{arith}
use Rattle.transcript_text.proofs.TextReadLemmas.{transcript-said}
use Rattle.transcript_text.proofs.laws.prove_one_text.Goals as goal

pub returns : goal.returns
returns c = λ sc book text t few e. transcript-said sc book text t (omega (arith, few)) e
