use Rattle.scenario_json.proofs.StartLemmas.{only-facilities, only-starts}
use Rattle.scenario_json.proofs.laws.prove_start_only_starts_all.Goals as goal

pub returns : goal.returns
returns c = record { stations = only-facilities; all = only-starts }
