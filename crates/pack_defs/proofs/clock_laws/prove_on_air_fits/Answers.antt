use Rattle.pack_defs.proofs.StationEntryLemmas.{on_air_fits}
use Rattle.pack_defs.proofs.clock_laws.prove_on_air_fits.Goals as goal

pub returns : goal.returns
returns c = on_air_fits
