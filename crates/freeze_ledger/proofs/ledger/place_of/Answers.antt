-- By the place after the lower stations.
use Rattle.std.proofs.Common.{nat_lt, rules, ℕ}
use Rattle.std.proofs.lemmas.List.Sorted.{IsPartitionPoint-from_clause, IsPartitionedBy-ltb}
use Rattle.freeze_ledger.proofs.LedgerLemmas.{insert-place, rising}
use Rattle.freeze_ledger.proofs.ledger.place_of.Goals as goal

pub returns-clause-place : goal.returns-clause-place
returns-clause-place c =
    let low = IsPartitionPoint-from_clause (λ (y : ℕ × ℕ). nat_lt y.0 c.args.station) _ _ c.partition_point.ensures.partitioned (IsPartitionedBy-ltb (λ (y : ℕ × ℕ). y.0) c.args.entries.now c.args.station (rising c.args.entries.now c.requires)) (λ a r q k. search rules) in
    λ price. insert-place c.args.station price c.args.entries.now c.partition_point.result c.partition_point.ensures.bound low
