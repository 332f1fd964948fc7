use Rattle.scenario_json.proofs.WrittenText.{written-reads}
use Rattle.scenario_json.proofs.laws.prove_written_reads_back.Goals as goal

pub returns : goal.returns
returns c = written-reads
