-- By cases on the verdict of the check.
use Rattle.auction_core.proofs.JudgedLemmas.{looked}
use Rattle.auction_core.proofs.laws.prove_judged_before.Goals as goal

pub returns : goal.returns
returns c sc book state posting answer h = looked sc book state posting answer h
