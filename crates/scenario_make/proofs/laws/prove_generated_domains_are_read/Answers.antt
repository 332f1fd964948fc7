use Rattle.scenario_make.proofs.DomainReadings.{domains-read}
use Rattle.scenario_make.proofs.laws.prove_generated_domains_are_read.Goals as goal

pub returns : goal.returns
returns c = domains-read
