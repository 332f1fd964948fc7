use Rattle.scenario_json.proofs.ChannelsOf.{book-kept}
use Rattle.scenario_json.proofs.laws.prove_file_channels.Goals as goal

pub returns : goal.returns
returns c = book-kept
