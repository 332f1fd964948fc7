use Rattle.scenario_json.proofs.Limits.{no-memory}
use Rattle.scenario_json.proofs.laws.prove_rejections_are_of_the_text.Goals as goal

pub returns : goal.returns
returns c = no-memory
