-- What it means that the three files of an auction are accepted.
use Rattle.std.specs.Prelude.{ℕ, ◌≡◌, List, [], Ok}
use Rattle.constraint_files.specs.Domains.{domains_of}
use Rattle.constraint_files.specs.PairTable.{PairsView, pairs_of}
use Rattle.pack_defs.specs.Book.{BookView}
use Rattle.pack_defs.specs.Prices.{start_set}
use Rattle.pack_defs.specs.declared.domain.Domain.{Domain}
use Rattle.pack_defs.specs.declared.scenario.Scenario.{Scenario}
use Rattle.scenario_json.specs.Join.{joined}
use Rattle.scenario_json.specs.ScenarioOf.{scenario_of}

-- Whether each file is read without a fault, a book is made of the three, and no station is on air at the start.
pub record AreAccepted (domain_file row_file scenario_file : List ℕ) : Type 0 where
  pub domains : List Domain
  pub domains_read : domains_of domain_file ≡ Ok domains
  pub pairs_view : PairsView
  pub rows_read : pairs_of row_file domains ≡ Ok pairs_view
  pub sc : Scenario
  pub scenario_read : scenario_of scenario_file ≡ Ok sc
  pub book : BookView
  pub joins : joined sc domains pairs_view.list ≡ Ok book
  pub none_starts : start_set sc ≡ []
