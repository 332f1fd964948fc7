use Rattle.transcript_check.proofs.CutLemmas.{cut-clean, cut-error}
use Rattle.transcript_check.proofs.laws.prove_error_of_cut_transcript.Goals as goal

pub returns-clause-before : goal.returns-clause-before
returns-clause-before c = cut-clean

pub returns-clause-there : goal.returns-clause-there
returns-clause-there c = cut-error
