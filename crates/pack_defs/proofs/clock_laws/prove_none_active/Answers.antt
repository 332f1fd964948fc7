use Rattle.pack_defs.proofs.StationEntryLemmas.{none_active}
use Rattle.pack_defs.proofs.clock_laws.prove_none_active.Goals as goal

pub returns : goal.returns
returns c = none_active
