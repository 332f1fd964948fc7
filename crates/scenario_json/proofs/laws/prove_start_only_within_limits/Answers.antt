use Rattle.scenario_json.proofs.StartLemmas.{only-limits}
use Rattle.scenario_json.proofs.laws.prove_start_only_within_limits.Goals as goal

pub returns : goal.returns
returns c = only-limits
