use Rattle.scenario_json.proofs.StartLemmas.{only-joined}
use Rattle.scenario_json.proofs.laws.prove_start_only_joins.Goals as goal

pub returns : goal.returns
returns c = only-joined
