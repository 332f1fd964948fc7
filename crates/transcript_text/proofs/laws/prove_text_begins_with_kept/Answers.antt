use Rattle.std.proofs.Common.{arith}
use Rattle.transcript_text.proofs.PrefixReadLemmas.{prefix-said}
use Rattle.transcript_text.proofs.laws.prove_text_begins_with_kept.Goals as goal

pub returns : goal.returns
returns c = λ sc book text kept few e. prefix-said sc book text kept (omega (arith, few)) e
