use Rattle.scenario_make.proofs.ScenarioLemmas.{none-starts}
use Rattle.scenario_make.proofs.laws.prove_no_generated_station_starts.Goals as goal

pub returns : goal.returns
returns c = none-starts
