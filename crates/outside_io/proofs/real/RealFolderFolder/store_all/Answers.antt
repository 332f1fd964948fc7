-- The folder is not modelled, so only the count of faults says whether the files were stored.
use Rattle.std.proofs.Common.{map, refl, rules}
use Rattle.outside_io.specs.StoreAll.{stored_file}
use Rattle.outside_io.proofs.GroupLaws.{all-untold, stops-untold}
use Rattle.outside_io.proofs.real.RealFolderFolder.store_all.Goals as goal

pub returns-in_default-clause-stored : goal.returns-in_default-clause-stored
returns-in_default-clause-stored g c = all-untold (map stored_file c.args.files.now) c.args.self.now.faults

pub returns-in-Failed-clause-stopped : goal.returns-in-Failed-clause-stopped
returns-in-Failed-clause-stopped g c =
    stops-untold c.args.files.now c.in-Err.unstored.at c.in-Err.unstored.why c.args.self.now.faults c.saturating_add-self-inside.result c.in-Err.ensures (search rules) (λ e. search rules) (λ not. absurd (not c.in-Failed.is))

pub returns-in_default-why-clause-stopped : goal.returns-in_default-why-clause-stopped
returns-in_default-why-clause-stopped g c =
    stops-untold c.args.files.now c.in-Err.unstored.at c.in-Err.unstored.why c.args.self.now.faults c.args.self.now.faults c.in-Err.ensures (search rules) (λ e. absurd (c.in_default-why.not-Failed e)) (λ not. refl)
