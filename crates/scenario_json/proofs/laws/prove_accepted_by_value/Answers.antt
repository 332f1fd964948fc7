use Rattle.scenario_json.proofs.Limits.{read-values}
use Rattle.scenario_json.proofs.laws.prove_accepted_by_value.Goals as goal

pub returns : goal.returns
returns c = read-values
