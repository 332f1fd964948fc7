use Rattle.scenario_json.proofs.Limits.{read-limits}
use Rattle.scenario_json.proofs.laws.prove_accepted_within_limits.Goals as goal

pub returns : goal.returns
returns c = read-limits
