use Rattle.std.proofs.Common.{◌≡◌, ◌++◌, map}
use Rattle.constraint_files.proofs.TableLemmas.{as_domain}
use Rattle.constraint_files.proofs.domain_table.DomainTable.into_list.Given as goal

abbrev pub invariant-loop-station : goal.invariant-loop-station
invariant-loop-station l = l.list.items ++ map as_domain l.station-iterator ≡ l.fn.self
