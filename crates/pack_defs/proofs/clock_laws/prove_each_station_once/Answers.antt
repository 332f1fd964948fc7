use Rattle.pack_defs.proofs.StationEntryLemmas.{each_once}
use Rattle.pack_defs.proofs.clock_laws.prove_each_station_once.Goals as goal

pub returns : goal.returns
returns c = each_once
