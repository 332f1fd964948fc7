use Rattle.scenario_make.proofs.ScenarioLemmas.{made-reads}
use Rattle.scenario_make.proofs.laws.prove_generated_scenario_is_read.Goals as goal

pub returns : goal.returns
returns c = made-reads
